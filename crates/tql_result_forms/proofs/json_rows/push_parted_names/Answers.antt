use Rattle.std.proofs.Common.{refl, sym, ap, string_bytes}
use Rattle.tql_result_laws.specs.Json.{string}
use Rattle.tql_result_forms.proofs.Parting.{parted_parts}
use Rattle.tql_result.proofs.Pushing.{sent_none, step, stop, last}
use Rattle.tql_result_forms.proofs.json_rows.push_parted_names.Goals as goal

pub returns-in_ok-push_string-in-Some : goal.returns-in_ok-push_string-in-Some
returns-in_ok-push_string-in-Some g c =
    last _
    (step _ (sent_none _ _ _)
    (parted_parts string string_bytes _ _ _ _ c.in-Some.ensures.cases.0
    (ap string (sym c.as_bytes.ensures.value)))
    c.in_ok-push_string-in-Some.ensures)
    refl c.push_next_names.ensures

pub returns-in_err-push_string-in-Some : goal.returns-in_err-push_string-in-Some
returns-in_err-push_string-in-Some g c =
    stop _ _ c.from_residual.ensures.0 (sent_none _ _ _)
    (parted_parts string string_bytes _ _ _ _ c.in-Some.ensures.cases.0
    (ap string (sym c.as_bytes.ensures.value)))
    c.in_err-push_string-in-Some.ensures
