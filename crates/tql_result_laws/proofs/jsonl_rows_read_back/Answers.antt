use Rattle.tql_result_laws.proofs.Members.{rows_same}
use Rattle.tql_result_laws.proofs.jsonl_rows_read_back.Goals as goal

pub returns : goal.returns
returns c = rows_same
