-- Statements that are written in scope are bound in scope.
use Rattle.std.specs.Prelude.{◌≡◌, ◌&&◌, IsTrue, IsFalse, List, [], ◌∷◌, ◌++◌}
use Rattle.tql_spec.specs.Definition.{TableDef}
use Rattle.tql_spec.specs.Machine.{CreateTable}
use Rattle.tql_spec.specs.Syntax.{Statement}
use Rattle.tql_spec.specs.Binding.{bind}
use Rattle.tql_points.specs.Scope.{ArePointTables, is_in_scope}
use Rattle.tql_points.specs.RefusalLaw.{gives_periods}
use Rattle.tql_points.specs.StatementScope.{makes_point_table, is_query, defines, is_statement_in_scope}

-- the table that a CREATE TABLE makes, in addition to the existing tables
pub record MakesPointTable (defs : List TableDef) (t : Statement) : Type 0 where
  pub made : TableDef
  pub bound : (bind defs t).value ≡ CreateTable made
  pub tables : ArePointTables (defs ++ made ∷ [])

-- the law: a CREATE TABLE of this form without a fault creates a table in scope, and leaves the others in scope
abbrev pub CreationsAreInScope : Type 0
CreationsAreInScope =
    (defs : List TableDef) (t : Statement) → ArePointTables defs → IsTrue (makes_point_table t)
    → (bind defs t).faults ≡ [] → MakesPointTable defs t

-- the law: a statement in scope, without a fault, that is not a query and neither creates nor drops a table, is bound
-- in scope and gives rising periods
abbrev pub StatementsAreInScope : Type 0
StatementsAreInScope =
    (defs : List TableDef) (t : Statement) → ArePointTables defs → IsTrue (is_statement_in_scope defs t)
    → IsFalse (is_query t) → IsFalse (defines t) → (bind defs t).faults ≡ []
    → IsTrue (is_in_scope defs (bind defs t).value && gives_periods defs (bind defs t).value)
