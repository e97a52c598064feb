use Rattle.tql_spec.proofs.ChangeBags.{no_order}
use Rattle.tql_spec.proofs.changes_keep_no_order.Goals as goal

pub returns : goal.returns
returns c = no_order
