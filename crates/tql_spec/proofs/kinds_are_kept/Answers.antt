use Rattle.tql_spec.proofs.QueryKinds.{values_typed, bound_typed}
use Rattle.tql_spec.proofs.KindRuns.{bags_typed, steps_keep, reached_typed}
use Rattle.tql_spec.proofs.CreateKinds.{own_points}
use Rattle.tql_spec.proofs.kinds_are_kept.Goals as goal

pub returns-clause-expressions : goal.returns-clause-expressions
returns-clause-expressions c = values_typed

pub returns-clause-bound : goal.returns-clause-bound
returns-clause-bound c = bound_typed

pub returns-clause-bags : goal.returns-clause-bags
returns-clause-bags c = bags_typed

pub returns-clause-steps : goal.returns-clause-steps
returns-clause-steps c = steps_keep

pub returns-clause-reached : goal.returns-clause-reached
returns-clause-reached c = reached_typed bound_typed

pub returns-clause-points : goal.returns-clause-points
returns-clause-points c = own_points
