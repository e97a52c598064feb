-- Each horizon that a run reaches is a moment of the calendar.
use Rattle.std.specs.Prelude.{◌≡◌, refl, List, ℤ, ◌≤ℤ◌, Option, Some, None}
use Rattle.std.proofs.Common.{arith}
use Rattle.std.proofs.lemmas.Int.{ints}
use Rattle.tql_spec.specs.Calendar.{first_moment, high, read_timestamp}
use Rattle.tql_spec.specs.Definition.{TableDef}
use Rattle.tql_spec.specs.History.{Entry}
use Rattle.tql_spec.specs.HorizonLaws.{ReachedHorizons}
use Rattle.tql_spec.specs.Machine.{State, Bound, CreateTable, DropTable, SetClock, Start, Commit, Rollback, ChangeRows}
use Rattle.tql_spec.specs.Machine.{AnswerQuery, Prune, effect, new_state, with_commit, with_working}
use Rattle.tql_spec.specs.Syntax.{Statement, CreateTree, DropTree, InsertValues, InsertSelect, UpdateTree, DeleteTree}
use Rattle.tql_spec.specs.Syntax.{QueryTree, StartTree, CommitTree, RollbackTree, AtTree, PruneTree}
use Rattle.tql_spec.specs.Machine.{OpenReader, Read, CloseReader}
use Rattle.tql_spec.specs.Syntax.{OpenTree, ReadTree, CloseTree}
use Rattle.tql_spec.specs.Binding.{bind, or_bad_moment}
use Rattle.tql_spec.proofs.MomentLiterals.{moment_read}
use Rattle.tql_spec.proofs.RunKeeps.{asked_stays, changed_entry, altered_keeps, run_keeps}

-- a moment of the calendar
abbrev InCalendar : ℤ → Type 0
InCalendar m = (first_moment ≤ℤ m) × (m ≤ℤ high)

-- the horizon of a state is in the calendar
record HasHorizon (s : State) : Type 0 where
  within : InCalendar s.horizon

-- a PRUNE has a moment of the calendar
abbrev PrunesWithin : Bound → Type 0
PrunesWithin (Prune m) = InCalendar m
PrunesWithin _ = Unit {0}

-- the moment of a literal, or its placeholder, is in the calendar
read_within : (o : Option ℤ) → ((m : ℤ) → o ≡ Some m → InCalendar m) → InCalendar (or_bad_moment o).value
read_within None k = (omega (arith, ints), omega (arith, ints))
read_within (Some m) k = k m refl

bound_within : (defs : List TableDef) (t : Statement) → PrunesWithin (bind defs t).value
bound_within defs (CreateTree n e es versioned) = tt
bound_within defs (DropTree n) = tt
bound_within defs (InsertValues n ns t ts) = tt
bound_within defs (InsertSelect n ns s) = tt
bound_within defs (UpdateTree n p s ss c) = tt
bound_within defs (DeleteTree n p c) = tt
bound_within defs (QueryTree s keys) = tt
bound_within defs StartTree = tt
bound_within defs CommitTree = tt
bound_within defs RollbackTree = tt
bound_within defs (AtTree m) = tt
bound_within defs (OpenTree n) = tt
bound_within defs (ReadTree n s keys) = tt
bound_within defs (CloseTree n) = tt
bound_within defs (PruneTree m) = read_within (read_timestamp m) (λ n e. moment_read m n e)

-- each effect preserves that the horizon is in the calendar
committed_within : (s : State) (o : Option Entry) → HasHorizon s → HasHorizon (with_commit s o)
committed_within s None h = h
committed_within s (Some e) h = record { within = h.within }

working_within : (s : State) (o : Option Entry) (e : Entry) → HasHorizon s → HasHorizon (with_working s o e)
working_within s None e h = record { within = h.within }
working_within s (Some w) e h = record { within = h.within }

effect_within : (s : State) (b : Bound) → PrunesWithin b → HasHorizon s → HasHorizon (effect s b).1
effect_within s (CreateTable d) k h = record { within = h.within }
effect_within s (DropTable t) k h = record { within = h.within }
effect_within s (SetClock m) k h = record { within = h.within }
effect_within s Start k h = record { within = h.within }
effect_within s Commit k h = committed_within s s.transaction h
effect_within s Rollback k h = record { within = h.within }
effect_within s (ChangeRows c) k h =
    altered_keeps HasHorizon s c h (λ q. working_within s s.transaction (changed_entry s c) h)
effect_within s (AnswerQuery q) k h = asked_stays HasHorizon s q _ h
effect_within s (OpenReader n) k h = record { within = h.within }
effect_within s (Read n q) k h = asked_stays HasHorizon s q _ h
effect_within s (CloseReader n) k h = record { within = h.within }
effect_within s (Prune m) k h = record { within = k }

-- the law: in every state that a run reaches, the horizon is in the calendar
pub reached_horizons : ReachedHorizons
reached_horizons s r =
    (run_keeps HasHorizon
    (λ x t k h. effect_within x (bind x.definitions t).value (bound_within x.definitions t) h)
    new_state r.pieces r.replies s r.run (record { within = (omega (arith, ints), omega (arith, ints)) })).within
