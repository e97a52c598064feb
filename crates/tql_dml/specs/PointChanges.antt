-- The effects of changes of a table, point by point.
use Rattle.std.specs.Prelude.{◌≡◌, ◌&&◌, not, IsTrue, ℤ, List, [], ◌++◌, map, filter, None}
use Rattle.std.specs.List.{list_all}
use Rattle.tql_spec.specs.Words.{map_all}
use Rattle.tql_spec.specs.Expression.{Expr, eval}
use Rattle.tql_spec.specs.Definition.{TableDef, Stamped}
use Rattle.tql_spec.specs.Creation.{has_number}
use Rattle.tql_spec.specs.Change.{Outcome, insert, modify}
use Rattle.tql_points.specs.Slice.{AreSlice}
use Rattle.tql_points.specs.PointTable.{moved, point_table}
use Rattle.tql_points.specs.PointStatement.{renumbered_work, conds_at, columns_at, tuples_at}
use Rattle.tql_points.specs.Scope.{is_free_work, is_free_cond, are_filled}
use Rattle.tql_points.specs.ChangeLaw.{HasSlice}
use Rattle.tql_points.specs.RefusalLaw.{once}
use Rattle.tql_bound.specs.Changes.{tuple_of}
use Rattle.tql_bound.specs.declared.change.Insertion.{Insertion}
use Rattle.tql_bound.specs.declared.change.Modification.{Modification}
use Rattle.tql_store.specs.Changes.{starting}
use Rattle.tql_store.specs.declared.store.Delta.{Delta}
use Rattle.tql_versions.specs.declared.version.Version.{Version}
use Rattle.tql_dml.specs.Alters.{rows_in, portion_in, work_in, conds_in}

-- the rows that a change adds at a moment
abbrev pub rows_added : Delta → ℤ → List Stamped
rows_added delta m = map (starting m) delta.added.items

-- the versions that a change does not remove
abbrev pub versions_left : List Version → Delta → List Version
versions_left found delta = filter (λ (v : Version). not (has_number v.id delta.removed.items)) found

-- at this point the plain change has no fault, and its result is the slice of these rows
pub record DoesAtPoint (defs : List TableDef) (d : TableDef) (p : ℤ) (rows : List Stamped)
    (given : Outcome) : Type 0 where
  pub sound : given.faults ≡ []
  pub slice : AreSlice d (point_table defs d) p rows given.rows

-- UPDATE and DELETE, if SET and WHERE name no period: each point's slice of the table after the change is what the
-- plain change of that point makes of the slice before. That has no portion. Points outside of the portion are not
-- changed
abbrev pub ModifiesAtPoints : TableDef → List Version → Modification → Delta → Type 0
ModifiesAtPoints d found x delta =
    IsTrue (is_free_work d (work_in x) && list_all (is_free_cond d) (conds_in x))
    → IsTrue (once (map (λ (v : Version). v.id) found))
    → (defs : List TableDef) (p m : ℤ) (others : List Stamped) → HasSlice defs d p (rows_in found) others
    → DoesAtPoint defs d p (rows_in (versions_left found delta) ++ rows_added delta m)
    (modify (point_table defs d) m others None (renumbered_work (moved d) (work_in x))
    (conds_at d p (portion_in x) (conds_in x)))

-- the tuples of an INSERT
abbrev pub exprs_in : Insertion → List (List Expr)
exprs_in x = map (tuple_of x.terms) x.tuples.items

-- INSERT of tuples: each point's slice of the table after it, whatever the rows, is what the plain INSERT of that point
-- makes of the slice before. That has the tuples whose period contains the point, without the cells of the period
abbrev pub InsertsAtPoints : TableDef → Insertion → Delta → Type 0
InsertsAtPoints d x delta =
    IsTrue (are_filled d x.columns.items)
    → (defs : List TableDef) (p m : ℤ) (rows others : List Stamped) → HasSlice defs d p rows others
    → DoesAtPoint defs d p (rows ++ rows_added delta m)
    (insert (point_table defs d) m others (columns_at d x.columns.items)
    (map_all (map_all (eval [] [])) (tuples_at d p x.columns.items (exprs_in x))))
