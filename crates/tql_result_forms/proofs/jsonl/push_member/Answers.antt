use Rattle.std.proofs.Common.{ap}
use Rattle.tql_result_laws.specs.Json.{string}
use Rattle.tql_result.proofs.Pushing.{joined, ended, as_text}
use Rattle.tql_result_forms.proofs.jsonl.push_member.Goals as goal

pub returns-in_err-push_string : goal.returns-in_err-push_string
returns-in_err-push_string g c =
    ended _ _ c.from_residual.ensures.0 (as_text (ap string c.as_bytes.ensures.value) c.in_err-push_string.ensures)

pub returns-in_err-push_all : goal.returns-in_err-push_all
returns-in_err-push_all g c =
    joined (as_text (ap string c.as_bytes.ensures.value) c.in_ok-push_string.ensures)
    (ended _ _ c.from_residual-in_err-push_all.ensures.0 c.in_err-push_all.ensures)

pub returns : goal.returns
returns g c =
    joined (as_text (ap string c.as_bytes.ensures.value) c.in_ok-push_string.ensures)
    (joined c.in_ok-push_all.ensures c.push_value.ensures)
