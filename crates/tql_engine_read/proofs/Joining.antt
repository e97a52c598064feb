-- The step of the reference model at a statement, from a fault of the state, the bound statement, or a fault of its
-- binding.
use Rattle.std.proofs.Common.{◌≡◌, refl, sym, subst, ap, ◌∙◌, ◌<◌, arith, Bool, true, false, List, [], ◌∷◌, ◌++◌}
use Rattle.std.proofs.Common.{Option, Some, None, Result, Err}
use Rattle.std.specs.Prelude.{ℤ, nat_lt, nat_le, int_lt, is_some, is_none, ◌&&◌, ◌||◌, not, length, if◌then◌else◌}
use Rattle.std.specs.List.{AllByRecursion}
use Rattle.tql_spec.specs.Calendar.{read_timestamp}
use Rattle.tql_spec.specs.Refusal as spec
use Rattle.tql_spec.specs.Refusal.{NotInThisTransactionState, MomentNotAllowed, place, earlier, first, fault_if}
use Rattle.tql_spec.specs.Refusal.{BeforeTheHorizon, ReadersAreOpen, ReaderNotUsable}
use Rattle.tql_spec.specs.Horizon.{asks_before}
use Rattle.tql_spec.specs.Limits.{most_readers}
use Rattle.tql_spec.specs.Readers.{Limits, is_any_open, is_named, passes_some, reads_plain}
use Rattle.tql_spec.specs.Names.{Checked}
use Rattle.tql_spec.specs.Definition.{TableDef}
use Rattle.tql_spec.specs.Machine as machine
use Rattle.tql_spec.specs.Machine.{State, Refused, StatementClass, Defines, SetsClock, Starts, Ends, Changes, Queries}
use Rattle.tql_spec.specs.Machine.{class_of, Prunes, bound_faults, limits_of, limit_faults}
use Rattle.tql_spec.specs.Machine.{state_faults, is_not_later, is_clock_at_end, effect, step, unless_refused}
use Rattle.tql_spec.specs.Syntax.{Statement, CreateTree, DropTree, InsertValues, InsertSelect, UpdateTree, DeleteTree}
use Rattle.tql_spec.specs.Syntax.{QueryTree, StartTree, CommitTree, RollbackTree, AtTree, PruneTree}
use Rattle.tql_spec.specs.Syntax.{OpenTree, ReadTree, CloseTree}
use Rattle.tql_spec.specs.Binding.{bind, statement_class, or_bad_moment}
use Rattle.tql_spec.specs.Run.{respond, statement_faults}
use Rattle.tql_spec.proofs.FirstFaults.{first_append, sooner, none_first, bound_steps, manner_kept}
use Rattle.tql_spec.proofs.FaultBags.{first_by_bag}
use Rattle.tql_spec.proofs.LateNames.{AreLate, crowded, none, ◌⊗◌}
use Rattle.tql_spec.proofs.RunKeeps.{no_left}
use Rattle.std.proofs.lemmas.List.Sums.{sum_by-append}
use Rattle.tql_bind.specs.Limited.{bind_under}
use Rattle.tql_bind.proofs.Limited.{names_clean}
use Rattle.tql_spec.proofs.LateFaults.{bind_late, first_late, earlier_stays}
use Rattle.tql_value.specs.Refusals.{refusal_of}
use Rattle.tql_value.specs.declared.refusal.Refusal.{Refusal}
use Rattle.tql_value.specs.declared.refusal.Refusal.TheVariants as r
use Rattle.tql_bind_table.specs.Binds.{Binds}
use Rattle.tql_bound.specs.Bounds.{bound_of}
use Rattle.tql_bound.specs.declared.bound.Bound.{Bound}
use Rattle.tql_result.specs.declared.reply.Reply.{Reply}
use Rattle.tql_engine_state.specs.Allowed.{IsAllowed}
use Rattle.tql_engine_state.specs.Stands.{EngineModel, StandsFor}
use Rattle.tql_engine_state.specs.Effects.{Does, DoesStep, Refuses, asked_first}
use Rattle.tql_engine_state.proofs.StateFaults.{allowed_law}

-- ---- a fault of the state

-- the refusal is reported before any that binding can give
abbrev IsEarly : spec.Refusal → Type 0
IsEarly e = place e < 9

if_early : (t : Bool) (e : spec.Refusal) → IsEarly e → AllByRecursion IsEarly (fault_if t e)
if_early true e h = (h, tt)
if_early false e h = tt

both_early : (t u : Bool) (e f : spec.Refusal) → IsEarly e → IsEarly f
    → AllByRecursion IsEarly (fault_if t e ++ fault_if u f)
both_early true u e f h k = (h, if_early u f k)
both_early false u e f h k = if_early u f k

state_early : (s : State) (m : StatementClass) → AllByRecursion IsEarly (state_faults s m)
state_early s Defines =
    both_early (is_some s.transaction) (is_any_open s.readers) NotInThisTransactionState ReadersAreOpen (omega arith)
    (omega arith)
state_early s (SetsClock None) = if_early (is_some s.transaction) NotInThisTransactionState (omega arith)
state_early s (SetsClock (Some m)) =
    both_early (is_some s.transaction) (is_not_later m s.history) NotInThisTransactionState MomentNotAllowed
    (omega arith) (omega arith)
state_early s Starts =
    both_early (is_some s.transaction) (is_clock_at_end s) NotInThisTransactionState MomentNotAllowed (omega arith)
    (omega arith)
state_early s Ends = if_early (is_none s.transaction) NotInThisTransactionState (omega arith)
state_early s Changes = if_early (is_none s.transaction && is_clock_at_end s) MomentNotAllowed (omega arith)
state_early s Queries = tt
state_early s (Prunes None) = if_early (is_some s.transaction) NotInThisTransactionState (omega arith)
state_early s (Prunes (Some m)) =
    both_early (is_some s.transaction) (passes_some m s.readers) NotInThisTransactionState ReadersAreOpen (omega arith)
    (omega arith)

either_early : (t : Bool) (a b : spec.Refusal) → IsEarly a → IsEarly b → IsEarly (if t then b else a)
either_early true a b h k = k
either_early false a b h k = h

abbrev MayBeEarly : Option spec.Refusal → Type 0
MayBeEarly None = Unit {0}
MayBeEarly (Some e) = IsEarly e

earlier_early : (a : spec.Refusal) (o : Option spec.Refusal) → IsEarly a → MayBeEarly o → IsEarly (earlier a o)
earlier_early a None h k = h
earlier_early a (Some b) h k = either_early (nat_lt (place b) (place a)) a b h k

first_early : (fs : List spec.Refusal) → AllByRecursion IsEarly fs → MayBeEarly (first fs)
first_early [] h = tt
first_early (a ∷ fs) h = earlier_early a (first fs) h.0 (first_early fs h.1)

-- the faults of the horizon and of readers are reported later
if_late : (t : Bool) → AreLate (fault_if t BeforeTheHorizon)
if_late true = record { each = (refl, tt) }
if_late false = none

unusable_late : (t : Bool) → AreLate (fault_if t ReaderNotUsable)
unusable_late true = record { each = (refl, tt) }
unusable_late false = none

limits_late : (l : Limits) (defs : List TableDef) (b : machine.Bound) → AreLate (bound_faults l defs b)
limits_late l defs (machine.CreateTable d) = none
limits_late l defs (machine.DropTable t) = none
limits_late l defs (machine.SetClock m) = none
limits_late l defs machine.Start = none
limits_late l defs machine.Commit = none
limits_late l defs machine.Rollback = none
limits_late l defs (machine.ChangeRows (machine.InsertTuples t columns tuples)) = none
limits_late l defs (machine.ChangeRows (machine.InsertQuery t columns q)) = if_late (asks_before l.horizon q)
limits_late l defs (machine.ChangeRows (machine.Modify t portion work conds)) = none
limits_late l defs (machine.AnswerQuery q) = if_late (asks_before l.horizon q)
limits_late l defs (machine.Prune m) = if_late (int_lt m l.horizon)
limits_late l defs (machine.OpenReader n) =
    crowded (nat_le most_readers (length l.names)) ⊗ unusable_late (is_named n l.names)
limits_late l defs (machine.Read n q) =
    unusable_late (not (is_named n l.names) || reads_plain defs q) ⊗ if_late (asks_before l.horizon q)
limits_late l defs (machine.CloseReader n) = unusable_late (not (is_named n l.names))

-- a statement bound under the limits of the state
abbrev pub bound_here : State → Statement → Checked machine.Bound
bound_here s t = bind_under (limits_of s) s.definitions t

here_late : (s : State) (t : Statement) → AreLate (bound_here s t).faults
here_late s t =
    limits_late (limits_of s) s.definitions (bind s.definitions t).value ⊗ bind_late s.definitions t

-- the first of a statement's faults is that of the state, if any, and else that of its binding
in_front : (s : State) (t : Statement)
    → first (statement_faults s t) ≡ first (state_faults s (statement_class t) ++ (bound_here s t).faults)
in_front s t =
    let limits = limit_faults s (bind s.definitions t).value in
    let own = state_faults s (statement_class t) in
    let names = (bind s.definitions t).faults in
    first_by_bag (limits ++ (own ++ names)) (own ++ (limits ++ names)) (record {
      totals = λ w. omega (
        arith,
        sum_by-append w limits (own ++ names),
        sum_by-append w own names,
        sum_by-append w own (limits ++ names),
        sum_by-append w limits names,
      );
    })

-- the moment of AT is tested later
moment_later : (t u : Bool) (e : spec.Refusal) → first (fault_if t NotInThisTransactionState) ≡ Some e
    → first (fault_if t NotInThisTransactionState ++ fault_if u MomentNotAllowed) ≡ Some e
moment_later true true e k = k
moment_later true false e k = k
moment_later false u e k = absurd cc

-- a fault that is found first stays the first
found_first : (s : State) (m : StatementClass) (e : spec.Refusal) → first (state_faults s (asked_first m)) ≡ Some e
    → first (state_faults s m) ≡ Some e
found_first s (SetsClock None) e k = k
found_first s (SetsClock (Some m)) e k = moment_later (is_some s.transaction) (is_not_later m s.history) e k
found_first s Ends e k = absurd cc
found_first s _ e k = k

-- a refusal for the first fault
refused_for : (h : EngineModel) (s : State) (t : Statement) (e : spec.Refusal) → StandsFor h s
    → first (statement_faults s t) ≡ Some e → Does h (Refused e) (respond s t)
refused_for h s t e st k =
    let r : machine.Reply × State = effect s (bind s.definitions t).value in
    let is : respond s t ≡ (Refused e, s) = ap (λ (o : Option spec.Refusal). unless_refused o s r.0 r.1) k in
    subst (Does h (Refused e)) (sym is) (record { replies = refl; stands = st })

state_fault_does : (h : EngineModel) (s : State) (t : Statement) (e : spec.Refusal) → StandsFor h s
    → first (state_faults s (asked_first (statement_class t))) ≡ Some e
    → Does h (Refused e) (respond s t)
state_fault_does h s t e st k =
    let found = found_first s (statement_class t) e k in
    let early : IsEarly e =
    subst MayBeEarly found (first_early (state_faults s (statement_class t)) (state_early s (statement_class t))) in
    let others = (bound_here s t).faults in
    refused_for h s t e st
    (in_front s t ∙ first_append (state_faults s (statement_class t)) others ∙ (λ i. sooner (found i) (first others))
    ∙ ap {B = Option spec.Refusal} (λ x. Some x)
    (earlier_stays e (first others) early (first_late others (here_late s t))))

-- a refusal by the reference model, or a refused allocation
pub refuses : (h : EngineModel) (s : State) (e : Refusal) (step : machine.Reply × State) → StandsFor h s
    → Does h (Refused (refusal_of e)) step → Refuses h s e step
refuses h s r.OutOfMemory step st d = st
refuses h s e step st d = d

-- a fault of the state is the reply of the reference model
pub state_does : (h : EngineModel) (s : State) (t : Statement) (fault : Refusal) → StandsFor h s
    → Some (refusal_of fault) ≡ first (state_faults s (asked_first (statement_class t)))
    → Refuses h s fault (respond s t)
state_does h s t fault st k = refuses h s fault (respond s t) st (state_fault_does h s t (refusal_of fault) st (sym k))

-- ---- a statement that is bound

-- without a fault, the transaction, the clock and the horizon allow the statement
pub bound_allowed : (h : EngineModel) (s : State) (t : Statement) (x : Bound) → StandsFor h s
    → None ≡ first (state_faults s (asked_first (statement_class t)))
    → first (bound_here s t).faults ≡ None → (bind s.definitions t).value ≡ bound_of x → IsAllowed h x
bound_allowed h s t x st k none is =
    let clean = names_clean (limits_of s) s.definitions t none in
    allowed_law h s x st
    (ap (λ m. first (state_faults s (asked_first m))) (sym (manner_kept s.definitions t clean ∙ ap class_of is))
    ∙ sym k)
    (ap (limit_faults s) (sym is)
    ∙ no_left (limit_faults s (bind s.definitions t).value) (bind s.definitions t).faults
    (none_first (bound_here s t).faults none))

-- the effect of the bound statement is that of the statement
pub bound_does : (new : EngineModel) (s : State) (t : Statement) (b : machine.Bound) (result : Result Reply Refusal)
    → first (bound_here s t).faults ≡ None → (bind s.definitions t).value ≡ b
    → DoesStep new s result (step s b) → DoesStep new s result (respond s t)
bound_does new s t b result none is d = subst (DoesStep new s result) (ap (step s) (sym is)
    ∙ sym (bound_steps s t (names_clean (limits_of s) s.definitions t none))) d

-- ---- a statement whose binding is refused

unread : (m : Option ℤ) (e : spec.Refusal) → first ((or_bad_moment m).faults ++ []) ≡ Some e
    → SetsClock m ≡ SetsClock None
unread None e k = refl
unread (Some m) e k = absurd (cc)

-- all else was tested before: the moment of AT is not valid, and COMMIT and ROLLBACK have no fault of their own
all_asked : (l : Limits) (defs : List TableDef) (t : Statement) (e : spec.Refusal)
    → first (bind_under l defs t).faults ≡ Some e → statement_class t ≡ asked_first (statement_class t)
all_asked l defs (CreateTree n x xs versioned) e k = refl
all_asked l defs (DropTree n) e k = refl
all_asked l defs (InsertValues n ns u us) e k = refl
all_asked l defs (InsertSelect n ns s) e k = refl
all_asked l defs (UpdateTree n p s ss c) e k = refl
all_asked l defs (DeleteTree n p c) e k = refl
all_asked l defs (QueryTree s keys) e k = refl
all_asked l defs StartTree e k = refl
all_asked l defs CommitTree e k = absurd (cc)
all_asked l defs RollbackTree e k = absurd (cc)
all_asked l defs (AtTree m) e k = unread (read_timestamp m) e k
all_asked l defs (PruneTree m) e k = refl
all_asked l defs (OpenTree n) e k = refl
all_asked l defs (ReadTree n s keys) e k = refl
all_asked l defs (CloseTree n) e k = refl

fault_does : (h : EngineModel) (s : State) (t : Statement) (e : spec.Refusal) → StandsFor h s
    → None ≡ first (state_faults s (asked_first (statement_class t)))
    → first (bound_here s t).faults ≡ Some e → Does h (Refused e) (respond s t)
fault_does h s t e st none k =
    let quiet : first (state_faults s (statement_class t)) ≡ None =
    ap (λ m. first (state_faults s m)) (all_asked (limits_of s) s.definitions t e k) ∙ sym none in
    refused_for h s t e st
    (in_front s t ∙ first_append (state_faults s (statement_class t)) (bound_here s t).faults
    ∙ (λ i. sooner (quiet i) (k i)))

-- the fault is the reply of the reference model, or memory ran out
pub refusal_does : {A : Type 0} (view : A → machine.Bound) (h : EngineModel) (s : State) (t : Statement)
    (fault : Refusal)
    → StandsFor h s
    → None ≡ first (state_faults s (asked_first (statement_class t))) → Binds view (bound_here s t) (Err fault)
    → Refuses h s fault (respond s t)
refusal_does view h s t r.OutOfMemory st none binds = st
refusal_does view h s t fault st none binds = fault_does h s t (refusal_of fault) st none binds
