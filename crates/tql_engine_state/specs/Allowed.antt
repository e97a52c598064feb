-- What the transaction, the clock, the horizon and open readers allow.
use Rattle.std.specs.Prelude.{◌≡◌, ◌<ℤ◌, ◌≤ℤ◌, ℤ, false, IsNone, IsFalse, [], map}
use Rattle.std.specs.List.{list_any}
use Rattle.tql_spec.specs.Calendar.{high}
use Rattle.tql_spec.specs.Horizon.{asks_before}
use Rattle.tql_spec.specs.Machine as machine
use Rattle.tql_spec.specs.Machine.{bound_faults}
use Rattle.tql_spec.specs.Query.{Query}
use Rattle.tql_spec.specs.Readers.{Limits}
use Rattle.tql_bound.specs.Bounds.{bound_of}
use Rattle.tql_bound.specs.Queries.{bound_query_of}
use Rattle.tql_bound.specs.declared.bound.Bound.{Bound}
use Rattle.tql_bound.specs.declared.bound.Bound.TheVariants.{CreateTable, DropTable, Insert, InsertFrom, Modify}
use Rattle.tql_bound.specs.declared.bound.Bound.TheVariants.{AnswerQuery}
use Rattle.tql_bound.specs.declared.bound.Bound.TheVariants.{SetClock, Prune, Start, Commit, Rollback}
use Rattle.tql_bound.specs.declared.bound.Bound.TheVariants.{OpenReader, Read, CloseReader}
use Rattle.tql_catalog.specs.Tables.{definitions_of}
use Rattle.tql_engine_state.specs.Readers.{KeptReader, is_passed}
use Rattle.tql_engine_state.specs.Stands.{EngineModel}

-- no transaction is open
abbrev pub IsIdle : EngineModel → Type 0
IsIdle h = IsNone h.store.working

-- the clock has a moment left
abbrev pub HasTimeLeft : EngineModel → Type 0
HasTimeLeft h = h.next <ℤ high

-- no reference of the query reads moments before the horizon
abbrev pub AsksWithin : EngineModel → Query → Type 0
AsksWithin h q = IsFalse (asks_before h.store.horizon q)

-- no reader is open
abbrev pub IsUnread : EngineModel → Type 0
IsUnread h = h.readers ≡ []

-- a horizon does not pass the pin of any reader
abbrev pub PassesNone : EngineModel → ℤ → Type 0
PassesNone h m = list_any (λ (r : KeptReader). is_passed m r.pin) h.readers ≡ false

-- the limits that statements are bound under
abbrev pub limits_held : EngineModel → Limits
limits_held h = record { horizon = h.store.horizon; names = map (λ (r : KeptReader). r.name) h.readers }

-- a bound statement has no fault of these limits
abbrev pub IsWithin : EngineModel → machine.Bound → Type 0
IsWithin h b = bound_faults (limits_held h) (definitions_of h.tables) b ≡ []

-- the state of the engine allows a bound statement; the moment of AT is tested elsewhere, and so are COMMIT and
-- ROLLBACK
abbrev pub IsAllowed : EngineModel → Bound → Type 0
IsAllowed h (CreateTable d) = IsIdle h × IsUnread h
IsAllowed h (DropTable t) = IsIdle h × IsUnread h
IsAllowed h (Insert x) = IsIdle h → HasTimeLeft h
IsAllowed h (InsertFrom x) = (IsIdle h → HasTimeLeft h) × AsksWithin h (bound_query_of x.query)
IsAllowed h (Modify x) = IsIdle h → HasTimeLeft h
IsAllowed h (AnswerQuery q) = AsksWithin h (bound_query_of q)
IsAllowed h (SetClock m) = IsIdle h
IsAllowed h (Prune m) = IsIdle h × (h.store.horizon ≤ℤ m) × PassesNone h m
IsAllowed h (OpenReader n) = IsWithin h (bound_of (OpenReader n))
IsAllowed h (Read x) = IsWithin h (bound_of (Read x))
IsAllowed h (CloseReader n) = IsWithin h (bound_of (CloseReader n))
IsAllowed h Start = IsIdle h × HasTimeLeft h
IsAllowed h Commit = Unit {0}
IsAllowed h Rollback = Unit {0}
