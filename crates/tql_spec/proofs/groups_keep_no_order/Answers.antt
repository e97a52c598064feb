use Rattle.tql_spec.proofs.GroupBags.{groups}
use Rattle.tql_spec.proofs.groups_keep_no_order.Goals as goal

pub returns : goal.returns
returns c = groups
