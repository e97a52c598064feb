use Rattle.tql_result.proofs.Pushing.{joined, ended}
use Rattle.tql_terminal.proofs.records.push_field.Goals as goal

pub returns-in_err-push_filled : goal.returns-in_err-push_filled
returns-in_err-push_filled g c = ended _ _ c.from_residual.ensures.0 c.in_err-push_filled.ensures

pub returns-in_err-push_all : goal.returns-in_err-push_all
returns-in_err-push_all g c =
    joined c.in_ok-push_filled.ensures
    (ended _ _ c.from_residual-in_err-push_all.ensures.0 c.in_err-push_all.ensures)

pub returns-in_err-push_shown : goal.returns-in_err-push_shown
returns-in_err-push_shown g c =
    joined c.in_ok-push_filled.ensures
    (joined c.in_ok-push_all.ensures
    (ended _ _ c.from_residual-in_err-push_shown.ensures.0 c.in_err-push_shown.ensures))

pub returns : goal.returns
returns g c =
    joined c.in_ok-push_filled.ensures
    (joined c.in_ok-push_all.ensures (joined c.in_ok-push_shown.ensures c.push_all-2.ensures))
