use Rattle.std.proofs.Common.{sym, ◌∙◌, ap, map, string_bytes, []}
use Rattle.std.specs.Prelude.{codes, option_map}
use Rattle.tql_result_laws.specs.Json.{known, name_array}
use Rattle.tql_result.proofs.Pushing.{joined, ended, as_text}
use Rattle.tql_result_forms.proofs.Placing.{member_parts, members_text}
use Rattle.tql_result_forms.proofs.json.push_columns.Goals as goal

pub returns-in_err-push_name-in-Some : goal.returns-in_err-push_name-in-Some
returns-in_err-push_name-in-Some g c =
    as_text
    (member_parts (codes "columns") (name_array (map string_bytes c.in-Some.columns.now))
    ∙ ap (λ l. members_text (known (codes "columns") name_array (option_map (λ x. map string_bytes x.now) l) []))
    (sym c.in-Some.is))
    (ended _ (name_array (map string_bytes c.in-Some.columns.now)) c.from_residual.ensures.0
    c.in_err-push_name-in-Some.ensures)

pub returns-in_ok-push_name-in-Some : goal.returns-in_ok-push_name-in-Some
returns-in_ok-push_name-in-Some g c =
    as_text
    (member_parts (codes "columns") (name_array (map string_bytes c.in-Some.columns.now))
    ∙ ap (λ l. members_text (known (codes "columns") name_array (option_map (λ x. map string_bytes x.now) l) []))
    (sym c.in-Some.is))
    (joined c.in_ok-push_name-in-Some.ensures c.push_names.ensures)
