use Rattle.tql_plan_access.proofs.InRange.{ranges_found, ranges_met}
use Rattle.tql_plan_access.proofs.limits.ranges_are_met.Goals as goal

pub returns-clause-met : goal.returns-clause-met
returns-clause-met c = ranges_met

pub returns-clause-found : goal.returns-clause-found
returns-clause-found c = ranges_found
