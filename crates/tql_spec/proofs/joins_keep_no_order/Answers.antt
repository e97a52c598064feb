use Rattle.tql_spec.proofs.JoinBags.{joins_keep_no_order}
use Rattle.tql_spec.proofs.joins_keep_no_order.Goals as goal

pub returns : goal.returns
returns c = joins_keep_no_order
