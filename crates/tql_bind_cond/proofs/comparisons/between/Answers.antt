use Rattle.std.proofs.Common.{ap}
use Rattle.tql_expr.specs.Meaning.{cond}
use Rattle.tql_expr.specs.Trees as trees
use Rattle.tql_syntax_tree.specs.Expressions.{expr_of}
use Rattle.tql_bind_expr.specs.Scopes.{scope_of}
use Rattle.tql_bind_cond.proofs.ComparisonLaws.{value_ok, between_is}
use Rattle.tql_bind_cond.proofs.comparisons.between.Goals as goal

pub returns-clause-bound : goal.returns-clause-bound
returns-clause-bound c =
    value_ok (cond c.negated_if.new.terms) c.negated_if.result _ _ _ _ c.negated_if.ensures.bound
    (between_is (scope_of c.args.scope.now) c.args.is_negated (expr_of c.args.operand.now) (expr_of c.args.low.now)
    (expr_of c.args.high.now)
    c.sum.new.terms c.compared.new.terms c.compared-2.new.terms c.in_ok-operand.operand c.in_ok-above.above
    c.in_ok-below.below _ _ _ _ _
    c.in_ok-above.ensures.stays c.in_ok-operand.ensures.held c.in_ok-below.ensures.stays c.in_ok-above.ensures.held
    c.in_ok-operand.ensures.bound c.in_ok-above.ensures.bound c.in_ok-below.ensures.bound
    (ap trees.cond_of c.in_ok-both.ensures.is))
