use Rattle.tql_result.proofs.Pushing.{joined, ended}
use Rattle.tql_result_box.proofs.lines.push_next_bar.Goals as goal

pub returns-in_err-push_all : goal.returns-in_err-push_all
returns-in_err-push_all g c = ended _ _ c.from_residual.ensures.0 c.in_err-push_all.ensures

pub returns : goal.returns
returns g c = joined c.in_ok-push_all.ensures c.push_bar.ensures
