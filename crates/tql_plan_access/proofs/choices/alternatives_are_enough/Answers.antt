use Rattle.tql_plan_access.proofs.Looked.{any_enough}
use Rattle.tql_plan_access.proofs.choices.alternatives_are_enough.Goals as goal

pub returns : goal.returns
returns c = any_enough c.safe_part_decides.ensures.decides
