use Rattle.tql_spec.specs.Datum.{Day, Moment}
use Rattle.tql_expr.specs.Meaning.{cond, judged}
use Rattle.tql_expr.proofs.Judged.{judged_is_ok}
use Rattle.tql_expr.proofs.PeriodSets.{periods_say, holding_says}
use Rattle.tql_expr.proofs.terms.Terms.holds.Goals as goal

pub returns-clause-safe : goal.returns-clause-safe
returns-clause-safe g c h =
    judged_is_ok c.judged_at.result _
    (c.safe_conditions.ensures (g.C.Columns.group c.args.columns.now) (g.C.Columns.values c.args.columns.now)
    (cond c.args.self.now c.args.c) h) c.judged_at.ensures

pub returns-clause-days : goal.returns-clause-days
returns-clause-days g c =
    periods_say Day (g.C.Columns.group c.args.columns.now) (g.C.Columns.values c.args.columns.now)
    (cond c.args.self.now c.args.c) (judged c.judged_at.result) c.predicates_on_points.ensures.days
    c.judged_at.ensures

pub returns-clause-moments : goal.returns-clause-moments
returns-clause-moments g c =
    periods_say Moment (g.C.Columns.group c.args.columns.now) (g.C.Columns.values c.args.columns.now)
    (cond c.args.self.now c.args.c) (judged c.judged_at.result) c.predicates_on_points.ensures.moments
    c.judged_at.ensures

pub returns-clause-day : goal.returns-clause-day
returns-clause-day g c =
    holding_says Day (g.C.Columns.group c.args.columns.now) (g.C.Columns.values c.args.columns.now)
    (cond c.args.self.now c.args.c) (judged c.judged_at.result) c.predicates_on_points.ensures.day c.judged_at.ensures

pub returns-clause-moment : goal.returns-clause-moment
returns-clause-moment g c =
    holding_says Moment (g.C.Columns.group c.args.columns.now) (g.C.Columns.values c.args.columns.now)
    (cond c.args.self.now c.args.c) (judged c.judged_at.result) c.predicates_on_points.ensures.moment
    c.judged_at.ensures
