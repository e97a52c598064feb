use Rattle.tql_result_laws.proofs.Whole.{answers_same}
use Rattle.tql_result_laws.proofs.answers_read_back.Goals as goal

pub returns : goal.returns
returns c = answers_same
