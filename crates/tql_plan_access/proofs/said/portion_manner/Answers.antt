use Rattle.tql_period.specs.Points.{points_of}
use Rattle.tql_plan_access.proofs.ByPeriod.{portion_said}
use Rattle.tql_plan_access.proofs.said.portion_manner.Goals as goal

pub returns-in-Some-Some-clause-said : goal.returns-in-Some-Some-clause-said
returns-in-Some-Some-clause-said c =
    portion_said c.args.definition.now (points_of c.args.portion) c.args.definition.now.application
    (c.in-Some-Some.start, c.in-Some-Some.end) c.in-Some-Some.ensures'
