-- The refusals of changes, in terms of the points.
use Rattle.std.specs.Prelude.{◌≡◌, ◌↔◌, ◌≤◌, ℕ, Bool, true, false, not, ◌&&◌, ◌==◌, IsTrue, List, [], ◌∷◌, ◌++◌, length}
use Rattle.std.specs.Prelude.{ℤ, Option, Some, None}
use Rattle.std.specs.List.{list_all}
use Rattle.tql_spec.specs.Datum.{Datum, Day, Moment, Row}
use Rattle.tql_spec.specs.Period.{rises}
use Rattle.tql_spec.specs.Refusal.{Refusal, place}
use Rattle.tql_spec.specs.Expression.{Expr}
use Rattle.tql_spec.specs.Definition.{TableDef, Application, cell, period_of, table_at}
use Rattle.tql_spec.specs.Creation.{has_number}
use Rattle.tql_spec.specs.Machine.{State, Change, InsertTuples, Bound, ChangeRows, Refused, step}
use Rattle.tql_points.specs.PointStatement.{given, statement_at}
use Rattle.tql_points.specs.Scope.{ArePointTables, is_in_scope}
use Rattle.tql_points.specs.PointMachine.{after_all, beginning, point_beginning, given_at}

-- ---- the periods of an INSERT

-- whether a value is a point
abbrev pub is_point : Datum → Bool
is_point (Day n) = true
is_point (Moment n) = true
is_point _ = false

-- whether both columns of the period have points
abbrev pub has_points : Option Application → Row → Bool
has_points None row = false
has_points (Some a) row = is_point (cell row a.start) && is_point (cell row a.end)

-- whether a row has a rising period: one that starts before it ends
abbrev pub has_period : TableDef → Row → Bool
has_period d row = has_points d.application row && rises (period_of d row)

-- whether no number occurs twice
abbrev pub once : List ℕ → Bool
once [] = true
once (i ∷ is) = not (has_number i is) && once is

-- whether a tuple has a cell for each column, and gives a rising period
abbrev pub gives_period : TableDef → List ℕ → List Expr → Bool
gives_period d columns tuple = (length tuple == length columns) && has_period d (given d columns tuple)

-- whether all tuples of an INSERT give rising periods, and no column is listed twice
abbrev pub gives_periods : List TableDef → Bound → Bool
gives_periods defs (ChangeRows (InsertTuples t columns tuples)) =
    once columns && list_all (gives_period (table_at defs t) columns) tuples
gives_periods defs b = true

-- ---- the law

-- the state of the model of a point after the accepted statements
abbrev pub state_at : List TableDef → (next horizon : ℤ) → List Bound → ℤ → State
state_at defs next horizon bs p = after_all (point_beginning defs next horizon) (given_at defs next horizon p bs)

-- the model of the point refuses the change with this refusal
abbrev pub RefusesAt : List TableDef → (next horizon : ℤ) → List Bound → Change → ℤ → Refusal → Type 0
RefusesAt defs next horizon bs c p e =
    (step (state_at defs next horizon bs p) (statement_at defs p (ChangeRows c))).0 ≡ Refused e

-- the model of some point does so, and none refuses earlier
pub record IsFirstOfPoints (defs : List TableDef) (next horizon : ℤ) (bs : List Bound) (c : Change)
    (e : Refusal) : Type 0 where
  pub point : ℤ
  pub refused : RefusesAt defs next horizon bs c point e
  pub first : (p : ℤ) (f : Refusal) → RefusesAt defs next horizon bs c p f → place e ≤ place f

-- the law: a change is refused exactly if the model of some point refuses it, with the first of their refusals
abbrev pub RefusalsReduce : Type 0
RefusalsReduce =
    (defs : List TableDef) (next horizon : ℤ) (bs : List Bound) (c : Change) (e : Refusal) → ArePointTables defs
    → IsTrue (list_all (λ b. is_in_scope defs b && gives_periods defs b) (bs ++ ChangeRows c ∷ []))
    → ((step (after_all (beginning defs next horizon) bs) (ChangeRows c)).0 ≡ Refused e)
    ↔ IsFirstOfPoints defs next horizon bs c e
