use Rattle.tql_result.proofs.Pushing.{joined, ended}
use Rattle.tql_terminal.proofs.records.push_record_line.Goals as goal

pub returns-in_err-push_all : goal.returns-in_err-push_all
returns-in_err-push_all g c = ended _ _ c.from_residual.ensures.0 c.in_err-push_all.ensures

pub returns-in_err-push_decimal : goal.returns-in_err-push_decimal
returns-in_err-push_decimal g c =
    joined c.in_ok-push_all.ensures
    (ended _ _ c.from_residual-in_err-push_decimal.ensures.0 c.in_err-push_decimal.ensures)

pub returns : goal.returns
returns g c = joined c.in_ok-push_all.ensures (joined c.in_ok-push_decimal.ensures c.push_all-2.ensures)
