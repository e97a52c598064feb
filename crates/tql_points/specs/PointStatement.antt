-- The statements that the model of one point is given.
use Rattle.std.specs.Prelude.{ℕ, Bool, List, [], ◌∷◌, ◌++◌, map, filter, ℤ, pos, Option, Some, None, if◌then◌else◌}
use Rattle.tql_spec.specs.Datum.{Datum, Null, Int, Row}
use Rattle.tql_spec.specs.Period.{Period, holds}
use Rattle.tql_spec.specs.Expression.{Expr, Literal, Cond, IsNull, eval}
use Rattle.tql_spec.specs.Definition.{TableDef, table_at, period_of}
use Rattle.tql_spec.specs.Creation.{has_number, period_columns}
use Rattle.tql_spec.specs.Change.{Assignment, Work, new_row}
use Rattle.tql_spec.specs.Machine.{Change, InsertTuples, InsertQuery, Modify, Bound, CreateTable, ChangeRows}
use Rattle.tql_spec.specs.Machine.{changed_table}
use Rattle.tql_points.specs.PointTable.{moved, renumbered, renumbered_cond, point_table}

-- ---- INSERT

-- the value, or NULL if an evaluation is out of range
abbrev pub or_null : Option Datum → Datum
or_null None = Null
or_null (Some v) = v

-- the row that a tuple gives
abbrev pub given : TableDef → List ℕ → List Expr → Row
given d columns tuple = new_row d columns (map (λ e. or_null (eval [] [] e)) tuple)

-- whether the application period of the row contains the point
abbrev pub holds_then : TableDef → ℤ → List ℕ → List Expr → Bool
holds_then d p columns tuple = holds (period_of d (given d columns tuple)) p

-- the elements whose columns are not among `own`
abbrev pub beside : {A : Type 0} → List ℕ → List ℕ → List A → List A
beside own (c ∷ cs) (x ∷ xs) = if has_number c own then beside own cs xs else x ∷ beside own cs xs
beside own _ _ = []

-- the filled columns except those of the period, by their new numbers
abbrev pub columns_at : TableDef → List ℕ → List ℕ
columns_at d columns = map (moved d) (beside (period_columns d.application) columns columns)

-- the tuples whose period contains the point, without the cells of the period
abbrev pub tuples_at : TableDef → ℤ → List ℕ → List (List Expr) → List (List Expr)
tuples_at d p columns tuples =
    map (beside (period_columns d.application) columns) (filter (holds_then d p columns) tuples)

-- ---- UPDATE and DELETE

-- the work, with columns renumbered
abbrev pub renumbered_work : (ℕ → ℕ) → Work → Work
renumbered_work f (Work.Set sets) =
    Work.Set (map (λ (a : Assignment). record { column = f a.column; value = renumbered f a.value }) sets)
renumbered_work f Work.Remove = Work.Remove

-- a WHERE condition that no row passes
abbrev pub never : List Cond
never = IsNull (Literal (Int (pos 0))) ∷ []

-- the WHERE conditions without the portion if the point lies in it; otherwise a condition that no row passes
abbrev pub conds_then : ℤ → Option Period → List Cond → List Cond
conds_then p None conds = conds
conds_then p (Some portion) conds = if holds portion p then conds else never

-- the same, with columns renumbered
abbrev pub conds_at : TableDef → ℤ → Option Period → List Cond → List Cond
conds_at d p portion conds = map (renumbered_cond (moved d)) (conds_then p portion conds)

-- ---- statements

-- a change
abbrev pub change_at : TableDef → ℤ → Change → Change
change_at d p (InsertTuples t columns tuples) = InsertTuples t (columns_at d columns) (tuples_at d p columns tuples)
change_at d p (InsertQuery t columns q) = InsertQuery t columns q
change_at d p (Modify t portion work conds) =
    Modify t None (renumbered_work (moved d) work) (conds_at d p portion conds)

-- a statement; a new table is made as the table of the point, and all others are left unchanged
abbrev pub statement_at : List TableDef → ℤ → Bound → Bound
statement_at defs p (CreateTable d) = CreateTable (point_table (defs ++ d ∷ []) d)
statement_at defs p (ChangeRows c) = ChangeRows (change_at (table_at defs (changed_table c)) p c)
statement_at defs p b = b
