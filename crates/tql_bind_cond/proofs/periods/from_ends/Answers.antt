use Rattle.tql_syntax_tree.specs.Expressions.{expr_of}
use Rattle.tql_bind_expr.specs.Scopes.{scope_of}
use Rattle.tql_bind_cond.proofs.PeriodLaws.{from_ends_is}
use Rattle.tql_bind_cond.proofs.periods.from_ends.Goals as goal

pub returns-clause-bound : goal.returns-clause-bound
returns-clause-bound c =
    from_ends_is (scope_of c.args.scope.now) (expr_of c.args.start.now) (expr_of c.args.end.now) c.sum.new.terms
    c.sum-2.new.terms c.in_ok-start.start c.in_ok-end.end c.are_no_ends.result _ _ _ _
    c.in_ok-end.ensures.stays c.in_ok-start.ensures.held c.in_ok-start.ensures.bound c.in_ok-end.ensures.bound
    c.are_no_ends.ensures c.refuse_if.ensures
