use Rattle.tql_result_laws.proofs.Objects.{lines_same}
use Rattle.tql_result_laws.proofs.json_lines_read_back.Goals as goal

pub returns : goal.returns
returns c = lines_same
