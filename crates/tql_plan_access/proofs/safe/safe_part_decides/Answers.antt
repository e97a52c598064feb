use Rattle.tql_plan_access.proofs.Looked.{enough}
use Rattle.tql_plan_access.proofs.SafePart.{decides}
use Rattle.tql_plan_access.proofs.safe.safe_part_decides.Goals as goal

pub returns-clause-decides : goal.returns-clause-decides
returns-clause-decides c = decides c.safe_conditions.ensures

pub returns-clause-enough : goal.returns-clause-enough
returns-clause-enough c = enough (decides c.safe_conditions.ensures)
