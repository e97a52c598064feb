use Rattle.tql_result_laws.proofs.Fields.{tables_same}
use Rattle.tql_result_laws.proofs.csv_tables_read_back.Goals as goal

pub returns : goal.returns
returns c = tables_same
