use Rattle.std.proofs.Common.{map}
use Rattle.tql_syntax_tree.specs.Expressions.{expr_of, boxed_expr_of}
use Rattle.tql_expr.specs.Meaning.{cond}
use Rattle.tql_bind_expr.specs.Scopes.{scope_of}
use Rattle.tql_bind_cond.proofs.ComparisonLaws.{value_ok, in_is}
use Rattle.tql_bind_cond.proofs.membership.in_test.Goals as goal

pub returns-clause-bound : goal.returns-clause-bound
returns-clause-bound c =
    value_ok (cond c.negated_if.new.terms) c.negated_if.result _ _ _ _ c.negated_if.ensures.bound
    (in_is (scope_of c.args.scope.now) c.args.is_negated (expr_of c.args.operand.now) (expr_of c.args.first.now)
    (map boxed_expr_of c.args.more.now)
    _ _ _ _ _ c.in_ok-operand.ensures.bound c.in_ok-is_among.ensures.bound)
