-- The meaning of a chain of operations such as `a + b - c`.
use Rattle.std.specs.Prelude.{All, map, option_map}
use Rattle.tql_spec.specs.Datum as datum
use Rattle.tql_spec.specs.Expression.{Expr}
use Rattle.tql_spec.specs.Names as names
use Rattle.tql_value.specs.Views.{plain_kind}
use Rattle.tql_expr.specs.Meaning.{expr, chain, HasExpr}
use Rattle.tql_expr.specs.Trees.{plain_operation}
use Rattle.tql_expr.specs.declared.node.Operation.{Operation}
use Rattle.tql_expr.specs.declared.terms.ExprId.{ExprId}
use Rattle.tql_expr.specs.declared.terms.Terms.{Terms}
use Rattle.tql_bind_expr.specs.declared.chain.Chain.{Chain}

-- an operation and its right operand
abbrev pub step_of : Terms → Operation × ExprId → datum.Operation × Expr
step_of t x = (plain_operation x.0, expr t x.1)

-- the operations from left to right, with the type of the result
abbrev pub chain_of : Terms → Chain → names.Typed
chain_of t c = record {
  expr = chain (expr t c.first) (map (step_of t) c.rest.items);
  kind = option_map plain_kind c.kind;
}

-- the operands are in the arena
pub record HoldsChain (t : Terms) (c : Chain) : Type 0 where
  pub first : HasExpr t c.first
  pub rest : All (λ x. HasExpr t x.1) c.rest.items
