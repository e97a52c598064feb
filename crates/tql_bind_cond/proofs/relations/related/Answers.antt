use Rattle.tql_expr.specs.Meaning.{expr}
use Rattle.tql_period.specs.Relations.{plain_relation}
use Rattle.tql_spec.specs.Expression.{Related}
use Rattle.tql_spec.specs.Refusal.{TypesDoNotFit}
use Rattle.tql_bind_expr.proofs.Gathering.{unless_asked}
use Rattle.tql_bind_cond.proofs.ComparisonLaws.{added_ok}
use Rattle.tql_bind_cond.proofs.relations.related.Goals as goal

pub returns-clause-bound : goal.returns-clause-bound
returns-clause-bound c =
    let t = c.args.terms.now in
    let e = Related (plain_relation c.args.which) (expr t c.args.left.start) (expr t c.args.left.end)
    (expr t c.args.right.start) (expr t c.args.right.end) in
    added_ok t c.push_related.new.self c.push_related.result e _ _ _ c.push_related.ensures
    (unless_asked c.differ.result _ TypesDoNotFit e _ _ c.differ.ensures c.refuse_if.ensures)
