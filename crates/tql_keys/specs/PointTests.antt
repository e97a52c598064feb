-- What `check` answers, expressed by the plain keys and references of the tables at each point of time.
use Rattle.std.specs.Prelude.{◌≡◌, ◌<◌, ◌≤◌, ℕ, ℤ, List, [], length, Some, Result, Ok, Err, ⊤}
use Rattle.tql_spec.specs.Definition.{TableDef, table_at}
use Rattle.tql_spec.specs.History.{Copy, rows_in}
use Rattle.tql_spec.specs.Machine.{constraint_faults}
use Rattle.tql_spec.specs.Refusal as spec
use Rattle.tql_spec.specs.Refusal.{first, place}
use Rattle.tql_points.specs.ChangeLaw.{HasSlice}
use Rattle.tql_points.specs.PointTable.{point_tables}
use Rattle.tql_points.specs.Scope.{ArePointTables}
use Rattle.tql_value.specs.declared.refusal.Refusal.{Refusal}
use Rattle.tql_value.specs.declared.refusal.Refusal.TheVariants.{DuplicateKey, ReferenceNotMet, OutOfMemory}

-- a copy for the tables at a point: for each table, the slice of its rows
pub record IsCopyAt (defs : List TableDef) (p : ℤ) (copy other : Copy) : Type 0 where
  pub as_many : length other ≡ length defs
  pub each : (t : ℕ) → t < length defs → HasSlice defs (table_at defs t) p (rows_in copy t) (rows_in other t)

-- some point has this as its first fault, and no point has an earlier one
pub record IsFirstOfTests (faults : ℤ → List spec.Refusal) (e : spec.Refusal) : Type 0 where
  pub point : ℤ
  pub refused : first (faults point) ≡ Some e
  pub least : (p : ℤ) (f : spec.Refusal) → first (faults p) ≡ Some f → place e ≤ place f

-- Ok: no point has a fault; an error: that of a key or a reference, the first of those of all points; an allocation may
-- be refused
abbrev pub IsRefusedAsTests : {A : Type 0} → (ℤ → List spec.Refusal) → Result A Refusal → Type 0
IsRefusedAsTests faults (Ok x) = (p : ℤ) → faults p ≡ []
IsRefusedAsTests faults (Err DuplicateKey) = IsFirstOfTests faults spec.DuplicateKey
IsRefusedAsTests faults (Err ReferenceNotMet) = IsFirstOfTests faults spec.ReferenceNotMet
IsRefusedAsTests faults (Err OutOfMemory) = ⊤
IsRefusedAsTests faults (Err e) = ⊥

-- the faults of a point are those of its plain keys and references, on the slices of a copy of the tables
abbrev pub IsRefusedAsPoints : {A : Type 0} → List TableDef → Copy → Result A Refusal → Type 0
IsRefusedAsPoints defs copy result =
    ArePointTables defs → (others : ℤ → Copy) → ((p : ℤ) → IsCopyAt defs p copy (others p))
    → IsRefusedAsTests (λ p. constraint_faults (point_tables defs) (others p)) result
