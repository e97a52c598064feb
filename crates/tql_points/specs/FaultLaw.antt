-- The refusals of a change of a table, in terms of the points.
use Rattle.std.specs.Prelude.{◌≡◌, ◌⊎◌, ◌↔◌, ◌≤◌, ◌&&◌, IsTrue, ℕ, ℤ, List, [], Option, Some, None}
use Rattle.std.specs.List.{list_all}
use Rattle.tql_spec.specs.Words.{map_all}
use Rattle.tql_spec.specs.Bag.{In}
use Rattle.tql_spec.specs.Period.{Period}
use Rattle.tql_spec.specs.Refusal.{Refusal, ValueOutOfRange, NullNotAllowed, CheckFailed, place, first}
use Rattle.tql_spec.specs.Expression.{Expr, Cond, eval}
use Rattle.tql_spec.specs.Definition.{TableDef, Stamped, shown}
use Rattle.tql_spec.specs.Change.{Outcome, Work, insert, modify, row_faults}
use Rattle.tql_points.specs.PointTable.{moved, point_table}
use Rattle.tql_points.specs.PointStatement.{renumbered_work, conds_at, columns_at, tuples_at}
use Rattle.tql_points.specs.Scope.{is_free_work, is_free_cond, are_filled}
use Rattle.tql_points.specs.RefusalLaw.{has_period, gives_period, once}
use Rattle.tql_points.specs.ChangeLaw.{HasSlice}

-- a row without faults whose application period has no NULL and rises
pub record IsSoundRow (d : TableDef) (r : Stamped) : Type 0 where
  pub rising : IsTrue (has_period d (shown d r))
  pub faultless : row_faults d (shown d r) ≡ []

abbrev pub AreSound : TableDef → List Stamped → Type 0
AreSound d rows = (r : Stamped) → In r rows → IsSoundRow d r

-- the refusals of a change of a table without periods: a value out of range, NULL, or a CHECK
abbrev pub IsPointRefusal : Refusal → Type 0
IsPointRefusal e = (e ≡ ValueOutOfRange) ⊎ (e ≡ NullNotAllowed) ⊎ (e ≡ CheckFailed)

-- some point refuses its change with e, none has an earlier refusal, and e is one of the refusals above
pub record IsFirstAtPoints (outcome : ℤ → Outcome) (e : Refusal) : Type 0 where
  pub point : ℤ
  pub refused : first (outcome point).faults ≡ Some e
  pub least : (p : ℤ) (f : Refusal) → first (outcome p).faults ≡ Some f → place e ≤ place f
  pub number : IsPointRefusal e

-- the law: an UPDATE or a DELETE is refused exactly if the change given to some point is, with the first of their
-- refusals
abbrev pub ModificationRefusals : Type 0
ModificationRefusals =
    (defs : List TableDef) (d : TableDef) (m : ℤ) (rows : List Stamped) (others : ℤ → List Stamped)
    (portion : Option Period) (work : Work) (conds : List Cond) (e : Refusal)
    → ((p : ℤ) → HasSlice defs d p rows (others p)) → AreSound d rows
    → IsTrue (is_free_work d work && list_all (is_free_cond d) conds)
    → (first (modify d m rows portion work conds).faults ≡ Some e)
    ↔ IsFirstAtPoints (λ p. modify (point_table defs d) m (others p) None (renumbered_work (moved d) work)
    (conds_at d p portion conds)) e

-- the law: the same for an INSERT whose tuples give rising periods
abbrev pub InsertionRefusals : Type 0
InsertionRefusals =
    (defs : List TableDef) (d : TableDef) (m : ℤ) (rows : List Stamped) (others : ℤ → List Stamped)
    (columns : List ℕ) (tuples : List (List Expr)) (e : Refusal)
    → ((p : ℤ) → HasSlice defs d p rows (others p))
    → IsTrue (are_filled d columns) → IsTrue (once columns && list_all (gives_period d columns) tuples)
    → (first (insert d m rows columns (map_all (map_all (eval [] [])) tuples)).faults ≡ Some e)
    ↔ IsFirstAtPoints (λ p. insert (point_table defs d) m (others p) (columns_at d columns)
    (map_all (map_all (eval [] [])) (tuples_at d p columns tuples))) e
