use Rattle.tql_result.proofs.Pushing.{joined, ended}
use Rattle.tql_run_forms.proofs.csv_form.push_next_table.Goals as goal

pub returns-in_err-push_all : goal.returns-in_err-push_all
returns-in_err-push_all g c = ended _ _ c.from_residual.ensures.0 c.in_err-push_all.ensures

pub returns : goal.returns
returns g c = joined c.in_ok-push_all.ensures c.write_csv_table.ensures
