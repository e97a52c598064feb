use Rattle.std.proofs.Common.{ap}
use Rattle.tql_result_laws.specs.Json.{string}
use Rattle.tql_result.proofs.Pushing.{joined, ended, as_text}
use Rattle.tql_result_forms.proofs.json_rows.push_next_name.Goals as goal

pub returns-in_err-push_all : goal.returns-in_err-push_all
returns-in_err-push_all g c = ended _ _ c.from_residual.ensures.0 c.in_err-push_all.ensures

pub returns : goal.returns
returns g c = joined c.in_ok-push_all.ensures (as_text (ap string c.as_bytes.ensures.value) c.push_string.ensures)
