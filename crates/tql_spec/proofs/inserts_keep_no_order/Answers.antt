use Rattle.tql_spec.proofs.InsertBags.{inserts}
use Rattle.tql_spec.proofs.inserts_keep_no_order.Goals as goal

pub returns : goal.returns
returns c = inserts
