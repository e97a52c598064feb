use Rattle.std.proofs.Common.{IfOk, subst}
use Rattle.tql_spec.specs.Names.{operand, related}
use Rattle.tql_spec.specs.Period.{Relation}
use Rattle.tql_expr.specs.Meaning.{cond}
use Rattle.tql_syntax_tree.specs.Conditions.{operand_of, relation_of}
use Rattle.tql_bind_expr.specs.Gathered.{Gathers}
use Rattle.tql_bind_expr.specs.Scopes.{scope_of}
use Rattle.tql_bind_cond.specs.Ends.{ends_of}
use Rattle.tql_bind_cond.proofs.PeriodLaws.{ends_there, two_ends_ok}
use Rattle.tql_bind_cond.proofs.relations.relation_test.Goals as goal

pub related-requires-clause-left : goal.related-requires-clause-left
related-requires-clause-left c = ends_there c.in_ok-right.ensures.stays c.in_ok-left.left c.in_ok-left.ensures.held

pub returns-clause-bound : goal.returns-clause-bound
returns-clause-bound c =
    let s = scope_of c.args.scope.now in
    let t = c.operand.new.terms in
    let u = c.operand-2.new.terms in
    let v = c.related.new.terms in
    let left = c.in_ok-left.left in
    let right = c.in_ok-right.right in
    two_ends_ok (operand s (operand_of c.args.left.now)) (operand s (operand_of c.args.right.now))
    (relation_of c.args.which) t u left right (cond v) _ _ _ _ c.related.result
    c.in_ok-right.ensures.stays c.in_ok-left.ensures.held c.in_ok-left.ensures.bound c.in_ok-right.ensures.bound
    (subst (λ (which : Relation). IfOk c.related.result
    (λ y. Gathers (related which (ends_of u left) (ends_of u right)) c.operand-2.new.faults c.related.new.faults
    (cond v y))) c.relation.ensures
    c.related.ensures.bound)
