use Rattle.tql_syntax_tree.specs.Expressions.{expr_of}
use Rattle.tql_bind_expr.specs.Scopes.{scope_of}
use Rattle.tql_bind_expr.proofs.Arena.{expr_there}
use Rattle.tql_bind_cond.proofs.ComparisonLaws.{added_ok}
use Rattle.tql_bind_cond.proofs.PeriodLaws.{contained_point_is}
use Rattle.tql_bind_cond.proofs.relations.contained_point.Goals as goal

pub push_contains_point-requires-clause-from : goal.push_contains_point-requires-clause-from
push_contains_point-requires-clause-from c = expr_there c.in_ok-point.ensures.stays c.args.period.start c.requires.start

pub push_contains_point-requires-clause-to : goal.push_contains_point-requires-clause-to
push_contains_point-requires-clause-to c = expr_there c.in_ok-point.ensures.stays c.args.period.end c.requires.end

pub returns-clause-bound : goal.returns-clause-bound
returns-clause-bound c =
    added_ok c.sum.new.terms c.push_contains_point.new.self c.push_contains_point.result _ _ _ _
    c.push_contains_point.ensures
    (contained_point_is (scope_of c.args.scope.now) (expr_of c.args.point.now) c.args.terms.now c.sum.new.terms
    c.args.period c.in_ok-point.point _ _ _ c.differ.result
    c.in_ok-point.ensures.stays c.requires c.in_ok-point.ensures.bound c.differ.ensures c.refuse_if.ensures)
