use Rattle.tql_spec.proofs.AnswerBags.{answers}
use Rattle.tql_spec.proofs.GroupBags.{groups}
use Rattle.tql_spec.proofs.answers_keep_no_order.Goals as goal

pub returns : goal.returns
returns c = answers groups
