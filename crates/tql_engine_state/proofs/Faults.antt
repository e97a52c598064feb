-- Steps that the state refuses, and steps that it allows.
use Rattle.std.specs.Prelude.{◌≡◌, refl, Bool, true, false, ◌&&◌, ◌++◌, ℤ, Some, None, is_some, is_none}
use Rattle.std.specs.Prelude.{if◌then◌else◌, List, []}
use Rattle.std.proofs.Common.{ap, ◌∙◌}
use Rattle.tql_spec.specs.Refusal.{Refusal, NotInThisTransactionState, MomentNotAllowed, earlier, first, fault_if}
use Rattle.tql_spec.specs.Horizon.{pruned}
use Rattle.tql_spec.specs.Machine.{State, Reply, Refused, Done, ClockSet, Started}
use Rattle.tql_spec.specs.Machine.{Bound, Committed, RolledBack, Change, SetClock, Start, Commit}
use Rattle.tql_spec.specs.Machine.{Rollback, ChangeRows, step, unless_refused, changed}
use Rattle.tql_spec.specs.Machine.{with_commit, working, is_not_later, is_clock_at_end}
use Rattle.tql_spec.specs.Machine.{Changes, change_faults, class_of, effect, limit_faults, state_faults}

-- a refusal, with the state as it was
abbrev pub refused : Refusal → State → Reply × State
refused e s = (Refused e, s)

-- the reply if there is at most one fault
one_fault : (a : Bool) (e : Refusal) (s : State) (reply : Reply) (new : State)
    → unless_refused (first (fault_if a e)) s reply new ≡ if a then refused e s else (reply, new)
one_fault true e s reply new = refl
one_fault false e s reply new = refl

-- the reply if there are at most two faults, the first of which is reported first
two_faults : (a b : Bool) (e f : Refusal) (s : State) (reply : Reply) (new : State) → earlier e (Some f) ≡ e
    → unless_refused (first (fault_if a e ++ fault_if b f)) s reply new ≡ if a then refused e s else
    (if b then refused f s else (reply, new))
two_faults true true e f s reply new k = rw k
two_faults true false e f s reply new k = refl
two_faults false true e f s reply new k = refl
two_faults false false e f s reply new k = refl

-- ---- the step of the reference model

-- a statement without a fault
pub free_step : (s : State) (b : Bound) → state_faults s (class_of b) ≡ [] → limit_faults s b ≡ []
    → step s b ≡ effect s b
free_step s b own limits = λ i. unless_refused (first (limits i ++ own i)) s (effect s b).0 (effect s b).1

-- neither of two faults is present
pub neither : (a b : Bool) (e f : Refusal) → a ≡ false → b ≡ false → fault_if a e ++ fault_if b f ≡ []
neither a b e f k l = λ i. fault_if (k i) e ++ fault_if (l i) f

pub clock_step : (s : State) (m : ℤ)
    → step s (SetClock m) ≡ if is_some s.transaction then refused NotInThisTransactionState s else
    (if is_not_later m s.history then refused MomentNotAllowed s else (Done ClockSet None, record s { next = m }))
clock_step s m = two_faults (is_some s.transaction) (is_not_later m s.history) NotInThisTransactionState
    MomentNotAllowed s (Done ClockSet None) (record s { next = m }) refl

pub start_step : (s : State)
    → step s Start ≡ if is_some s.transaction then refused NotInThisTransactionState s else
    (if is_clock_at_end s then refused MomentNotAllowed s else
    (Done Started None, record s { transaction = Some (working s None) }))
start_step s = two_faults (is_some s.transaction) (is_clock_at_end s) NotInThisTransactionState MomentNotAllowed s
    (Done Started None) (record s { transaction = Some (working s None) }) refl

pub commit_step : (s : State)
    → step s Commit ≡ if is_none s.transaction then refused NotInThisTransactionState s else
    (Done Committed None, with_commit s s.transaction)
commit_step s = one_fault (is_none s.transaction) NotInThisTransactionState s (Done Committed None)
    (with_commit s s.transaction)

pub rollback_step : (s : State)
    → step s Rollback ≡ if is_none s.transaction then refused NotInThisTransactionState s else
    (Done RolledBack None, record s { transaction = None })
rollback_step s = one_fault (is_none s.transaction) NotInThisTransactionState s (Done RolledBack None)
    (record s { transaction = None })

-- a change that reads nothing before the horizon
pub alter_step : (s : State) (c : Change) → change_faults s.horizon c ≡ []
    → step s (ChangeRows c)
    ≡ if is_none s.transaction && is_clock_at_end s then refused MomentNotAllowed s else changed s c
alter_step s c within =
    ap (λ (fs : List Refusal). unless_refused (first (fs ++ state_faults s Changes)) s (changed s c).0 (changed s c).1)
    within
    ∙ one_fault (is_none s.transaction && is_clock_at_end s) MomentNotAllowed s (changed s c).0 (changed s c).1

-- the history after pruning, and the new horizon
abbrev pub pruned_to : ℤ → State → State
pruned_to m s = record s { history = pruned m s.history; horizon = m }
