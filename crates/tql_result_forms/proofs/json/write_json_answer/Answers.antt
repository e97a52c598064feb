use Rattle.tql_result.proofs.Pushing.{joined, ended, as_text}
use Rattle.tql_result_forms.proofs.Placing.{json_parts}
use Rattle.tql_result_forms.proofs.json.write_json_answer.Goals as goal

pub returns-in_err-push_place : goal.returns-in_err-push_place
returns-in_err-push_place g c =
    as_text (json_parts _ _ _ _) (ended _ _ c.from_residual.ensures.0 c.in_err-push_place.ensures)

pub returns-in_err-push_answer : goal.returns-in_err-push_answer
returns-in_err-push_answer g c =
    as_text (json_parts _ _ _ _)
    (joined c.in_ok-push_place.ensures
    (ended _ _ c.from_residual-in_err-push_answer.ensures.0 c.in_err-push_answer.ensures))

pub returns : goal.returns
returns g c =
    as_text (json_parts _ _ _ _)
    (joined c.in_ok-push_place.ensures (joined c.in_ok-push_answer.ensures c.push_all.ensures))
