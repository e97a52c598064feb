use Rattle.std.proofs.Common.{drop}
use Rattle.tql_spec.specs.Names.{expr, product}
use Rattle.tql_syntax_tree.specs.Expressions.{expr_of, term_of}
use Rattle.tql_bind_expr.specs.Scopes.{scope_of}
use Rattle.tql_bind_expr.proofs.Loops.{ChainLeads, terms_left, factors_left}
use Rattle.tql_bind_expr.proofs.expressions.+expressions.Given as goal

-- the remaining terms, applied to the bound ones, give the whole sum
abbrev pub invariant-sum-loop-added : goal.invariant-sum-loop-added
invariant-sum-loop-added l =
    ChainLeads (expr (scope_of l.scope) (expr_of l.sum)) l.fn.terms l.fn.faults l.terms l.chain
    (terms_left (scope_of l.scope) (drop l.added-index l.added-items)) l.faults

-- the remaining factors, applied to the bound ones, give the whole product
abbrev pub invariant-product-loop-factor : goal.invariant-product-loop-factor
invariant-product-loop-factor l =
    ChainLeads (product (scope_of l.scope) (term_of l.product)) l.fn.terms l.fn.faults l.terms l.chain
    (factors_left (scope_of l.scope) (drop l.factor-index l.factor-items)) l.faults
