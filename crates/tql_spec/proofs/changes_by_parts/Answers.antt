use Rattle.tql_spec.proofs.ChangeBags.{by_parts}
use Rattle.tql_spec.proofs.changes_by_parts.Goals as goal

pub returns : goal.returns
returns c = by_parts
