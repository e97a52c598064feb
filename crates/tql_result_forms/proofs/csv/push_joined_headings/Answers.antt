use Rattle.std.proofs.Common.{refl, sym, ap, string_bytes}
use Rattle.tql_result_laws.specs.Csv.{text_field}
use Rattle.tql_result.proofs.Joining.{joined_parts}
use Rattle.tql_result.proofs.Pushing.{sent_none, step, stop, last}
use Rattle.tql_result_forms.proofs.csv.push_joined_headings.Goals as goal

pub returns-in_ok-push_text-in-Some : goal.returns-in_ok-push_text-in-Some
returns-in_ok-push_text-in-Some g c =
    last _
    (step _ (sent_none _ _ _)
    (joined_parts text_field string_bytes 44 _ _ _ _ c.in-Some.ensures.cases.0
    (ap text_field (sym c.as_bytes.ensures.value)))
    c.in_ok-push_text-in-Some.ensures)
    refl c.push_next_headings.ensures

pub returns-in_err-push_text-in-Some : goal.returns-in_err-push_text-in-Some
returns-in_err-push_text-in-Some g c =
    stop _ _ c.from_residual.ensures.0 (sent_none _ _ _)
    (joined_parts text_field string_bytes 44 _ _ _ _ c.in-Some.ensures.cases.0
    (ap text_field (sym c.as_bytes.ensures.value)))
    c.in_err-push_text-in-Some.ensures
