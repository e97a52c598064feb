use Rattle.tql_result.proofs.Pushing.{joined}
use Rattle.tql_result.proofs.table.push_row.Goals as goal

pub returns : goal.returns
returns g c = joined c.in_ok-push_joined.ensures c.push_all.ensures
