use Rattle.std.proofs.Common.{IfOk, subst}
use Rattle.tql_spec.specs.Names as names
use Rattle.tql_spec.specs.Names.{related}
use Rattle.tql_spec.specs.Period.{Includes}
use Rattle.tql_expr.specs.Meaning.{cond}
use Rattle.tql_value.specs.Views.{plain_kind}
use Rattle.tql_bind_expr.specs.Gathered.{Gathers}
use Rattle.tql_bind_cond.specs.Ends.{ends_of}
use Rattle.tql_bind_cond.proofs.PeriodLaws.{ends_there, ends_kept}
use Rattle.tql_bind_cond.proofs.relations.contained_period.Goals as goal

pub related-requires-clause-left : goal.related-requires-clause-left
related-requires-clause-left c = ends_there c.in_ok-right.ensures.stays c.args.period c.requires

pub returns-clause-bound : goal.returns-clause-bound
returns-clause-bound c =
    let u = c.ends_at.new.terms in
    let v = c.related.new.terms in
    subst (λ (x : names.Ends). IfOk c.related.result
    (λ y. Gathers (related Includes x (names.ends_at c.args.start c.args.end (plain_kind c.args.kind)))
    c.args.faults.now c.related.new.faults (cond v y)))
    (ends_kept c.in_ok-right.ensures.stays c.args.period c.requires)
    (subst (λ (y : names.Ends). IfOk c.related.result
    (λ z. Gathers (related Includes (ends_of u c.args.period) y) c.args.faults.now c.related.new.faults (cond v z)))
    c.in_ok-right.ensures.bound c.related.ensures.bound)
