use Rattle.std.proofs.Common.{sym, ◌∙◌, ap, []}
use Rattle.std.specs.Prelude.{option_map}
use Rattle.tql_result_laws.specs.Json.{string, known}
use Rattle.tql_result.proofs.Pushing.{joined, ended, as_text}
use Rattle.tql_result_forms.proofs.Placing.{member_parts, members_text}
use Rattle.tql_result_forms.proofs.json.push_text.Goals as goal

pub returns-in_err-push_name-in-Some : goal.returns-in_err-push_name-in-Some
returns-in_err-push_name-in-Some g c =
    as_text
    (member_parts c.args.name.now (string c.in-Some.text.now)
    ∙ ap (λ t. members_text (known c.args.name.now string (option_map (λ s. s.now) t) [])) (sym c.in-Some.is))
    (ended _ (string c.in-Some.text.now) c.from_residual.ensures.0 c.in_err-push_name-in-Some.ensures)

pub returns-in_ok-push_name-in-Some : goal.returns-in_ok-push_name-in-Some
returns-in_ok-push_name-in-Some g c =
    as_text
    (member_parts c.args.name.now (string c.in-Some.text.now)
    ∙ ap (λ t. members_text (known c.args.name.now string (option_map (λ s. s.now) t) [])) (sym c.in-Some.is))
    (joined c.in_ok-push_name-in-Some.ensures (as_text (ap string c.as_bytes.ensures.value) c.push_string.ensures))
