use Rattle.std.proofs.Common.{sym, ◌∙◌, ap, decimal, []}
use Rattle.tql_result_laws.specs.Json.{known}
use Rattle.tql_result.proofs.Pushing.{joined, ended, as_text}
use Rattle.tql_result_forms.proofs.Placing.{member_parts, members_text}
use Rattle.tql_result_forms.proofs.json.push_number.Goals as goal

pub returns-in_err-push_name-in-Some : goal.returns-in_err-push_name-in-Some
returns-in_err-push_name-in-Some g c =
    as_text
    (member_parts c.args.name.now (decimal c.in-Some.number)
    ∙ ap (λ n. members_text (known c.args.name.now decimal n [])) (sym c.in-Some.is))
    (ended _ (decimal c.in-Some.number) c.from_residual.ensures.0 c.in_err-push_name-in-Some.ensures)

pub returns-in_ok-push_name-in-Some : goal.returns-in_ok-push_name-in-Some
returns-in_ok-push_name-in-Some g c =
    as_text
    (member_parts c.args.name.now (decimal c.in-Some.number)
    ∙ ap (λ n. members_text (known c.args.name.now decimal n [])) (sym c.in-Some.is))
    (joined c.in_ok-push_name-in-Some.ensures c.push_decimal.ensures)
