-- The syntax trees of statements for which each point can be considered on its own.
use Rattle.std.specs.Prelude.{ℕ, Bool, true, false, not, ◌&&◌, ◌||◌, ◌==◌, List, [], ◌∷◌, ◌++◌, map, slice_index_or, ℤ}
use Rattle.std.specs.Prelude.{int_lt, Option, Some, None, is_some, if◌then◌else◌}
use Rattle.std.specs.List.{flat_map, list_all}
use Rattle.tql_spec.specs.Words.{same_text, is_empty}
use Rattle.tql_spec.specs.Calendar.{read_date, read_timestamp}
use Rattle.tql_spec.specs.Definition.{Name, TableDef, Application}
use Rattle.tql_spec.specs.Creation.{has_name, names_of, application_name, part_names, periods_of, period_names}
use Rattle.tql_spec.specs.Creation.{application_parts, constraints_of}
use Rattle.tql_spec.specs.Binding.{insert_columns}
use Rattle.tql_spec.specs.Syntax.{Sum, Terms, NoTerm, Factors, NoFactor, Unsigned, Primary, DateLiteral}
use Rattle.tql_spec.specs.Syntax.{TimestampLiteral, Enclosed, Condition, CellTree, NullCell, ValueCell, Tuple, SetTree}
use Rattle.tql_spec.specs.Syntax.{Element, Constraint, KeyTree, ForeignTree, CheckTree, Statement, CreateTree, DropTree}
use Rattle.tql_spec.specs.Syntax.{InsertValues, InsertSelect, UpdateTree, DeleteTree, QueryTree, StartTree, CommitTree}
use Rattle.tql_spec.specs.Syntax.{RollbackTree, AtTree, PruneTree, OpenTree, ReadTree, CloseTree}
use Rattle.tql_points.specs.Slice.{own_columns}
use Rattle.tql_points.specs.NamesAvoided.{sum_avoids, condition_avoids, filter_avoids}

-- ---- CREATE TABLE

-- the names of the periods and of their columns, as written
abbrev pub written_names : List Element → List Name
written_names es = period_names es ++ flat_map part_names (periods_of es)

-- whether a key is WITHOUT OVERLAPS, a reference has PERIOD, and a CHECK names none of these names
abbrev pub is_point_constraint : List Name → Constraint → Bool
is_point_constraint names (KeyTree primary n ns period) = is_some period
is_point_constraint names (ForeignTree child n parent) = is_some child.period
is_point_constraint names (CheckTree c) = condition_avoids names c

-- whether a statement creates a table with an application period and only constraints of this form
abbrev pub makes_point_table : Statement → Bool
makes_point_table (CreateTree n e es versioned) =
    not (is_empty (application_parts (e ∷ es)))
    && list_all (is_point_constraint (written_names (e ∷ es))) (constraints_of (e ∷ es))
makes_point_table _ = false

-- whether a statement creates a table of this form, sets the clock or the horizon, is a query, or opens or closes a
-- reader
abbrev pub prepares : Statement → Bool
prepares (AtTree m) = true
prepares (PruneTree m) = true
prepares (QueryTree s keys) = true
prepares (OpenTree n) = true
prepares (ReadTree n s keys) = true
prepares (CloseTree n) = true
prepares t = makes_point_table t

-- ---- the periods of an INSERT

-- the point written by an expression: a literal of a date or a timestamp, possibly in parentheses
abbrev mutual
  pub point_of_sum : Sum → Option ℤ
  point_of_sum (Terms (Factors (Unsigned p) NoFactor) NoTerm) = point_of_primary p
  point_of_sum _ = None

  pub point_of_primary : Primary → Option ℤ
  point_of_primary (DateLiteral t) = read_date t
  point_of_primary (TimestampLiteral t) = read_timestamp t
  point_of_primary (Enclosed e) = point_of_sum e
  point_of_primary _ = None

-- the point of a cell
abbrev pub point_in : CellTree → Option ℤ
point_in NullCell = None
point_in (ValueCell e) = point_of_sum e

-- the cell for a column, among cells for these columns; NULL if there is none
abbrev pub cell_for : ℕ → List ℕ → List CellTree → CellTree
cell_for i (c ∷ cs) (x ∷ xs) = if i == c then x else cell_for i cs xs
cell_for i _ _ = NullCell

-- both points are present, and the first is before the second
abbrev pub do_rise : Option ℤ → Option ℤ → Bool
do_rise (Some f) (Some g) = int_lt f g
do_rise _ _ = false

-- whether cells for these columns give a rising period
abbrev pub cells_rise : Option Application → List ℕ → List CellTree → Bool
cells_rise None columns cells = true
cells_rise (Some a) columns cells =
    do_rise (point_in (cell_for a.start columns cells)) (point_in (cell_for a.end columns cells))

-- whether a tuple gives a rising period, for an INSERT with these column names
abbrev pub tuple_rises : TableDef → List Name → Tuple → Bool
tuple_rises d names t = cells_rise d.application (insert_columns d names).value (t.first ∷ t.more)

-- ---- UPDATE and DELETE

-- the names of the periods of a table and of their columns
abbrev pub own_names : TableDef → List Name
own_names d = application_name d.application ++ map (λ i. slice_index_or (names_of d) i []) (own_columns d)

-- whether a cell names none of these names
abbrev pub cell_avoids : List Name → CellTree → Bool
cell_avoids names NullCell = true
cell_avoids names (ValueCell e) = sum_avoids names e

-- whether a SET assignment neither sets nor reads a column with one of these names
abbrev pub set_avoids : List Name → SetTree → Bool
set_avoids names s = not (has_name s.column names) && cell_avoids names s.value

-- whether SET and WHERE name no period of the table and no column of one
abbrev pub change_avoids : List SetTree → Option Condition → TableDef → Bool
change_avoids sets c d = list_all (set_avoids (own_names d)) sets && filter_avoids (own_names d) c

-- ---- statements

-- whether the test is true of each table with this name
abbrev pub of_table : Name → (TableDef → Bool) → List TableDef → Bool
of_table n test defs = list_all (λ (d : TableDef). not (same_text n d.name) || test d) defs

-- whether a statement is a query, of the tables or of a reader
abbrev pub is_query : Statement → Bool
is_query (QueryTree s keys) = true
is_query (ReadTree n s keys) = true
is_query _ = false

-- whether a statement creates or drops a table
abbrev pub defines : Statement → Bool
defines (CreateTree n e es versioned) = true
defines (DropTree n) = true
defines _ = false

-- whether a statement is in scope: an INSERT of tuples with rising periods, or an UPDATE or a DELETE that names a
-- period only as its portion. So is a CREATE TABLE of the form above. DROP TABLE, transaction statements, AT, PRUNE
-- HISTORY, queries and the statements of readers are in scope too.
abbrev pub is_statement_in_scope : List TableDef → Statement → Bool
is_statement_in_scope defs (CreateTree n e es versioned) = makes_point_table (CreateTree n e es versioned)
is_statement_in_scope defs (DropTree n) = true
is_statement_in_scope defs (InsertValues n names t ts) = of_table n (λ d. list_all (tuple_rises d names) (t ∷ ts)) defs
is_statement_in_scope defs (InsertSelect n names s) = false
is_statement_in_scope defs (UpdateTree n portion s ss c) = of_table n (change_avoids (s ∷ ss) c) defs
is_statement_in_scope defs (DeleteTree n portion c) = of_table n (change_avoids [] c) defs
is_statement_in_scope defs (QueryTree s keys) = true
is_statement_in_scope defs StartTree = true
is_statement_in_scope defs CommitTree = true
is_statement_in_scope defs RollbackTree = true
is_statement_in_scope defs (AtTree m) = true
is_statement_in_scope defs (PruneTree m) = true
is_statement_in_scope defs (OpenTree n) = true
is_statement_in_scope defs (ReadTree n s keys) = true
is_statement_in_scope defs (CloseTree n) = true
