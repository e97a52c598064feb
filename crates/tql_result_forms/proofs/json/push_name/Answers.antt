use Rattle.tql_result.proofs.Pushing.{joined, ended}
use Rattle.tql_result_forms.proofs.json.push_name.Goals as goal

pub returns-in_err-push_all : goal.returns-in_err-push_all
returns-in_err-push_all g c = ended _ _ c.from_residual.ensures.0 c.in_err-push_all.ensures

pub returns-in_err-push_string : goal.returns-in_err-push_string
returns-in_err-push_string g c =
    joined c.in_ok-push_all.ensures
    (ended _ _ c.from_residual-in_err-push_string.ensures.0 c.in_err-push_string.ensures)

pub returns : goal.returns
returns g c = joined c.in_ok-push_all.ensures (joined c.in_ok-push_string.ensures c.push_all-2.ensures)
