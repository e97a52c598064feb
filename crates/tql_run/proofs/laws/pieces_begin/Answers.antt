use Rattle.tql_run.proofs.Leads.{begin}
use Rattle.tql_run.proofs.laws.pieces_begin.Goals as goal

pub returns : goal.returns
returns c = begin
