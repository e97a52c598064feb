use Rattle.tql_spec.specs.Expression as bound
use Rattle.tql_syntax_tree.specs.Expressions.{expr_of}
use Rattle.tql_value.specs.Views.{plain_comparison}
use Rattle.tql_bind_expr.specs.Scopes.{scope_of}
use Rattle.tql_bind_cond.proofs.ComparisonLaws.{added_ok, compared_is}
use Rattle.tql_bind_cond.proofs.comparisons.compared.Goals as goal

pub returns-clause-bound : goal.returns-clause-bound
returns-clause-bound c =
    added_ok c.sum.new.terms c.push_compare.new.self c.push_compare.result _ _ _ _ c.push_compare.ensures
    (compared_is (scope_of c.args.scope.now) (expr_of c.args.right.now) c.args.terms.now c.sum.new.terms c.args.left
    c.in_ok-right.right _ _ _ c.differ.result (bound.Compare (plain_comparison c.args.sign))
    c.in_ok-right.ensures.stays c.requires c.in_ok-right.ensures.bound c.differ.ensures c.refuse_if.ensures)
