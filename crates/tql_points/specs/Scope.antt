-- The tables and statements for which each point can be considered on its own.
use Rattle.std.specs.Prelude.{◌≡◌, ◌<◌, ℕ, Bool, true, false, not, ◌&&◌, ◌||◌, IsTrue, nat_lt, List, [], ◌∷◌, length}
use Rattle.std.specs.Prelude.{is_some}
use Rattle.std.specs.List.{list_all}
use Rattle.tql_spec.specs.Bag.{In}
use Rattle.tql_spec.specs.Expression.{Expr, Cond}
use Rattle.tql_spec.specs.Definition.{TableDef, Key, Reference, table_at, place_of}
use Rattle.tql_spec.specs.Creation.{has_number, period_columns, uses_column, has_expr}
use Rattle.tql_spec.specs.Change.{Assignment, Work}
use Rattle.tql_spec.specs.Machine.{Change, InsertTuples, InsertQuery, Modify, Bound, CreateTable, DropTable}
use Rattle.tql_spec.specs.Machine.{ChangeRows, AnswerQuery, changed_table}
use Rattle.tql_spec.specs.AtPoints.{parent_at}
use Rattle.tql_spec.specs.Machine.{Read}
use Rattle.tql_points.specs.Slice.{own_columns, payload_columns}

-- ---- expressions that name no period

-- whether a column belongs to no period
abbrev pub is_payload : TableDef → ℕ → Bool
is_payload d i = has_number i (payload_columns d)

-- whether an expression reads no column of a period
abbrev pub is_free : TableDef → Expr → Bool
is_free d e = not (uses_column (λ i. not (is_payload d i)) e)

-- whether a condition reads no column of a period
abbrev pub is_free_cond : TableDef → Cond → Bool
is_free_cond d c = not (has_expr (uses_column (λ i. not (is_payload d i))) c)

-- whether SET neither reads nor sets a column of a period
abbrev pub is_free_work : TableDef → Work → Bool
is_free_work d (Work.Set sets) = list_all (λ (a : Assignment). is_payload d a.column && is_free d a.value) sets
is_free_work d Work.Remove = true

-- ---- tables

-- distinct column numbers below n
abbrev pub AreApart : ℕ → List ℕ → Type 0
AreApart n [] = Unit {0}
AreApart n (i ∷ is) = (i < n) × (has_number i is ≡ false) × AreApart n is

-- a table with an application period, with keys and references by that period, and with CHECKs that name no period
pub record IsPointTable (defs : List TableDef) (d : TableDef) : Type 0 where
  pub period : IsTrue (is_some d.application)
  pub apart : AreApart (length d.columns) (own_columns d)
  pub checks : IsTrue (list_all (is_free_cond d) d.checks)
  pub keys : (k : Key) → In k d.keys → IsTrue k.by_period × IsTrue (list_all (is_payload d) k.columns)
  pub references : (f : Reference) → In f d.references
      → IsTrue f.by_period × IsTrue (is_some (place_of f.parent defs)) × IsTrue (list_all (is_payload d) f.columns)
      × IsTrue (list_all (is_payload (parent_at defs (place_of f.parent defs))) f.parent_columns)

-- each table is in scope
abbrev pub ArePointTables : List TableDef → Type 0
ArePointTables defs = (t : ℕ) → t < length defs → IsPointTable defs (table_at defs t)

-- ---- statements

-- whether an INSERT fills existing columns that are not generated
abbrev pub are_filled : TableDef → List ℕ → Bool
are_filled d columns = list_all (λ i. is_payload d i || has_number i (period_columns d.application)) columns

-- whether a change of the table names a period only as its portion; an INSERT may list the columns of the period
abbrev pub is_change_of : TableDef → Change → Bool
is_change_of d (InsertTuples t columns tuples) = are_filled d columns
is_change_of d (InsertQuery t columns q) = false
is_change_of d (Modify t portion work conds) = is_free_work d work && list_all (is_free_cond d) conds

-- whether a statement is one of these changes of an existing table, or concerns transactions, the clock, the horizon or
-- the open readers
abbrev pub is_in_scope : List TableDef → Bound → Bool
is_in_scope defs (CreateTable d) = false
is_in_scope defs (DropTable t) = false
is_in_scope defs (ChangeRows c) =
    nat_lt (changed_table c) (length defs) && is_change_of (table_at defs (changed_table c)) c
is_in_scope defs (AnswerQuery q) = false
is_in_scope defs (Read n q) = false
is_in_scope defs b = true
