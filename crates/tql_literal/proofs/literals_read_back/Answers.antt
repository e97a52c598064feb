use Rattle.tql_literal.proofs.ReadBack.{literals_back}
use Rattle.tql_literal.proofs.literals_read_back.Goals as goal

pub returns : goal.returns
returns c = literals_back
