-- How the changes of a table are refused, by the plain changes of the points.
use Rattle.std.specs.Prelude.{◌≡◌, ◌&&◌, IsTrue, ℤ, List, [], None, Result, Ok, Err, ⊤}
use Rattle.std.specs.List.{list_all}
use Rattle.tql_spec.specs.Words.{map_all}
use Rattle.tql_spec.specs.Expression.{eval}
use Rattle.tql_spec.specs.Definition.{TableDef, Stamped}
use Rattle.tql_spec.specs.Change.{Outcome, insert, modify}
use Rattle.tql_points.specs.PointTable.{moved, point_table}
use Rattle.tql_points.specs.PointStatement.{renumbered_work, conds_at, columns_at, tuples_at}
use Rattle.tql_points.specs.Scope.{is_free_work, is_free_cond, are_filled}
use Rattle.tql_points.specs.ChangeLaw.{HasSlice}
use Rattle.tql_points.specs.FaultLaw.{AreSound, IsFirstAtPoints}
use Rattle.tql_points.specs.RefusalLaw.{gives_period, once}
use Rattle.tql_bound.specs.declared.change.Insertion.{Insertion}
use Rattle.tql_bound.specs.declared.change.Modification.{Modification}
use Rattle.tql_versions.specs.declared.version.Version.{Version}
use Rattle.tql_value.specs.Refusals.{refusal_of}
use Rattle.tql_value.specs.declared.refusal.Refusal.{Refusal}
use Rattle.tql_value.specs.declared.refusal.Refusal.TheVariants.{OutOfMemory}
use Rattle.tql_dml.specs.Alters.{rows_in, portion_in, work_in, conds_in}
use Rattle.tql_dml.specs.PointChanges.{exprs_in}

-- by the result of a change: no point's plain change has a fault; or some point's is refused with this refusal, none
-- with an earlier one, and it is a value out of range, NULL or a CHECK; or an allocation was refused
abbrev pub IsRefusedAsPoints : {A : Type 0} → (ℤ → Outcome) → Result A Refusal → Type 0
IsRefusedAsPoints given (Ok x) = (p : ℤ) → (given p).faults ≡ []
IsRefusedAsPoints given (Err OutOfMemory) = ⊤
IsRefusedAsPoints given (Err e) = IsFirstAtPoints given (refusal_of e)

-- ---- UPDATE and DELETE

-- the plain change of a point, on its slice of the rows
abbrev pub modified_at : List TableDef → TableDef → Modification → ℤ → (ℤ → List Stamped) → ℤ → Outcome
modified_at defs d x m others p =
    modify (point_table defs d) m (others p) None (renumbered_work (moved d) (work_in x))
    (conds_at d p (portion_in x) (conds_in x))

-- if SET and WHERE name no period, and the rows are sound: each has a period that rises, and no fault
abbrev pub RefusesModificationAsPoints : {A : Type 0} → TableDef → List Version → Modification → Result A Refusal
    → Type 0
RefusesModificationAsPoints d found x result =
    IsTrue (is_free_work d (work_in x) && list_all (is_free_cond d) (conds_in x))
    → (defs : List TableDef) (m : ℤ) (others : ℤ → List Stamped)
    → ((p : ℤ) → HasSlice defs d p (rows_in found) (others p)) → AreSound d (rows_in found)
    → IsRefusedAsPoints (modified_at defs d x m others) result

-- ---- INSERT

-- the plain INSERT of a point, into its slice of the rows
abbrev pub inserted_at : List TableDef → TableDef → Insertion → ℤ → (ℤ → List Stamped) → ℤ → Outcome
inserted_at defs d x m others p =
    insert (point_table defs d) m (others p) (columns_at d x.columns.items)
    (map_all (map_all (eval [] [])) (tuples_at d p x.columns.items (exprs_in x)))

-- if each tuple has a period that rises, whatever rows the table has; other tuples belong to no point
abbrev pub RefusesInsertionAsPoints : {A : Type 0} → TableDef → Insertion → Result A Refusal → Type 0
RefusesInsertionAsPoints d x result =
    IsTrue (are_filled d x.columns.items)
    → IsTrue (once x.columns.items && list_all (gives_period d x.columns.items) (exprs_in x))
    → (defs : List TableDef) (m : ℤ) (rows : List Stamped) (others : ℤ → List Stamped)
    → ((p : ℤ) → HasSlice defs d p rows (others p))
    → IsRefusedAsPoints (inserted_at defs d x m others) result
