use Rattle.tql_spec.proofs.TokenLaws.{one_list}
use Rattle.tql_spec.proofs.one_token_list.Goals as goal

pub returns : goal.returns
returns c = one_list
