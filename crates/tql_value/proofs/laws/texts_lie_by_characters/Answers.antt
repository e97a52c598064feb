use Rattle.tql_value.proofs.OrderLemmas.{texts_lie_by_characters}
use Rattle.tql_value.proofs.laws.texts_lie_by_characters.Goals as goal

pub returns : goal.returns
returns c = texts_lie_by_characters
