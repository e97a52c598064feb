use Rattle.tql_run.proofs.Cutting.{are_cut}
use Rattle.tql_run.proofs.laws.scripts_are_cut.Goals as goal

pub returns : goal.returns
returns c = are_cut
