use Rattle.tql_spec.proofs.SafeConditions.{safe_truth}
use Rattle.tql_spec.proofs.safe_conditions.Goals as goal

pub returns : goal.returns
returns c = safe_truth
