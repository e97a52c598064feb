use Rattle.tql_dml.proofs.Brief.{brief}
use Rattle.tql_dml.proofs.faults.is_longer.Goals as goal

pub returns-else-limit-text : goal.returns-else-limit-text
returns-else-limit-text c = brief c.args.limit c.args.text.now c.if-limit-text.false
