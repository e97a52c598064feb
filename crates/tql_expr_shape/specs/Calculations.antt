-- The first calculation of an expression and of a condition: from the left, and of nested ones the innermost.
use Rattle.std.specs.Prelude.{Option, Some, None}
use Rattle.tql_spec.specs.Expression.{Expr, Literal, Column, Negate, Binary, CountRows, Aggregate}
use Rattle.tql_spec.specs.Expression.{Cond, Compare, IsNull, Related, ContainsPoint, Not, And, Or}
use Rattle.tql_plan_laws.specs.Equalities.{or_else}

-- the first operation or sign of an expression in whose own operands there is none
abbrev pub first_in : Expr → Option Expr
first_in (Literal v) = None
first_in (Column i) = None
first_in (Negate e) = or_else (first_in e) (Some (Negate e))
first_in (Binary op a b) = or_else (or_else (first_in a) (first_in b)) (Some (Binary op a b))
first_in CountRows = None
first_in (Aggregate f e) = first_in e

-- the first one of two expressions
abbrev pub first_in_two : Expr → Expr → Option Expr
first_in_two a b = or_else (first_in a) (first_in b)

-- the first one of the expressions of a condition
abbrev pub first_of : Cond → Option Expr
first_of (Compare sign a b) = first_in_two a b
first_of (IsNull a) = first_in a
first_of (Related which s e s' e') = or_else (first_in_two s e) (first_in_two s' e')
first_of (ContainsPoint s e p) = or_else (first_in_two s e) (first_in p)
first_of (Not c) = first_of c
first_of (And c d) = or_else (first_of c) (first_of d)
first_of (Or c d) = or_else (first_of c) (first_of d)
