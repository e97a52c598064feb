-- The expression that a shape is.
use Rattle.std.specs.Prelude.{⊤}
use Rattle.tql_spec.specs.Expression.{Expr}
use Rattle.tql_spec.specs.Expression as bound
use Rattle.tql_value.specs.Views.{datum_of_view}
use Rattle.tql_expr.specs.Trees.{plain_operation}
use Rattle.tql_expr.specs.Meaning.{expr, aggregate, HasExpr, HasOperand}
use Rattle.tql_expr.specs.declared.terms.Terms.{Terms}
use Rattle.tql_expr_shape.specs.declared.shape.Shape.{Shape}
use Rattle.tql_expr_shape.specs.declared.shape.Shape.TheVariants.{Literal, Column, Negate, Binary, Over}

-- the expression of a shape, over the terms of its operands
abbrev pub shaped : Terms → Shape → Expr
shaped t (Literal v) = bound.Literal (datum_of_view v)
shaped t (Column i) = bound.Column i
shaped t (Negate x) = bound.Negate (expr t x)
shaped t (Binary op x y) = bound.Binary (plain_operation op) (expr t x) (expr t y)
shaped t (Over a) = aggregate t a

-- its operands are there
abbrev pub HasParts : Terms → Shape → Type 0
HasParts t (Literal v) = ⊤
HasParts t (Column i) = ⊤
HasParts t (Negate x) = HasExpr t x
HasParts t (Binary op x y) = HasExpr t x × HasExpr t y
HasParts t (Over a) = HasOperand t a
