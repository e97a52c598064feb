use Rattle.tql_result.proofs.Pushing.{joined, ended}
use Rattle.tql_result_forms.proofs.csv.push_headings.Goals as goal

pub returns-in_err-push_joined_headings : goal.returns-in_err-push_joined_headings
returns-in_err-push_joined_headings g c = ended _ _ c.from_residual.ensures.0 c.in_err-push_joined_headings.ensures

pub returns : goal.returns
returns g c = joined c.in_ok-push_joined_headings.ensures c.push_all.ensures
