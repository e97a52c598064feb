use Rattle.tql_spec.proofs.LineLaws.{in_place}
use Rattle.tql_spec.proofs.statements_in_place.Goals as goal

pub returns : goal.returns
returns c = in_place
