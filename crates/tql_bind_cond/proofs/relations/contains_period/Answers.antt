use Rattle.tql_spec.specs.Names.{operand, marked}
use Rattle.tql_spec.specs.Period.{Includes}
use Rattle.tql_expr.specs.Meaning.{cond}
use Rattle.tql_syntax_tree.specs.Conditions.{operand_of, marked_of}
use Rattle.tql_bind_expr.specs.Scopes.{scope_of}
use Rattle.tql_bind_cond.proofs.PeriodLaws.{ends_there, two_ends_ok}
use Rattle.tql_bind_cond.proofs.relations.contains_period.Goals as goal

pub related-requires-clause-left : goal.related-requires-clause-left
related-requires-clause-left c = ends_there c.in_ok-right.ensures.stays c.in_ok-left.left c.in_ok-left.ensures.held

pub returns-clause-bound : goal.returns-clause-bound
returns-clause-bound c =
    let s = scope_of c.args.scope.now in
    two_ends_ok (operand s (operand_of c.args.left.now)) (marked s (marked_of c.args.right.now)) Includes
    c.operand.new.terms c.marked.new.terms c.in_ok-left.left c.in_ok-right.right
    (cond c.related.new.terms) _ _ _ _ c.related.result
    c.in_ok-right.ensures.stays c.in_ok-left.ensures.held c.in_ok-left.ensures.bound c.in_ok-right.ensures.bound
    c.related.ensures.bound
