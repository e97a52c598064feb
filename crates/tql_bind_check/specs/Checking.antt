-- The checks of a new table, in a scope.
use Rattle.std.specs.Prelude.{ℕ, Bool, ◌||◌, List, [], ◌∷◌}
use Rattle.tql_spec.specs.Refusal.{FormNotAllowedHere}
use Rattle.tql_spec.specs.Expression.{Cond}
use Rattle.tql_spec.specs.Names.{Checked, ◌>>=◌, unless, condition, Known}
use Rattle.tql_spec.specs.Syntax.{Element, Constraint, CheckTree, Condition}
use Rattle.tql_spec.specs.Creation.{constraints_of, has_aggregate, uses_column, has_expr}
use Rattle.tql_syntax_tree.specs.Statements.{element_of, elements_of}
use Rattle.tql_syntax_tree.specs.declared.statement.CreateTree.{CreateTree}

-- the elements of a CREATE TABLE
abbrev pub elements_in : CreateTree → List Element
elements_in c = element_of c.first ∷ elements_of c.more

-- the checks among constraints
abbrev pub check_parts : List Constraint → List Condition
check_parts [] = []
check_parts (CheckTree c ∷ cs) = c ∷ check_parts cs
check_parts (_ ∷ cs) = check_parts cs

-- the checks among elements
abbrev pub checks_in : List Element → List Condition
checks_in es = check_parts (constraints_of es)

-- whether a check has an aggregate or a generated column; `gen` says which columns are generated
abbrev pub is_wrong_check : (ℕ → Bool) → Cond → Bool
is_wrong_check gen b = has_expr has_aggregate b || has_expr (uses_column gen) b

-- a check in this scope
abbrev pub check_by : (ℕ → Bool) → List Known → Condition → Checked Cond
check_by gen scope c = condition scope c >>= λ b. unless (is_wrong_check gen b) FormNotAllowedHere b
