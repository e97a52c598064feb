use Rattle.tql_result.proofs.Pushing.{joined, ended}
use Rattle.tql_terminal.proofs.records.push_record.Goals as goal

pub returns-in_err-push_record_line : goal.returns-in_err-push_record_line
returns-in_err-push_record_line g c = ended _ _ c.from_residual.ensures.0 c.in_err-push_record_line.ensures

pub returns : goal.returns
returns g c = joined c.in_ok-push_record_line.ensures c.push_fields.ensures
