use Rattle.std.proofs.Common.{sym, ap}
use Rattle.tql_spec.specs.Text.{count_text}
use Rattle.tql_result.proofs.Pushing.{joined, ended, as_text}
use Rattle.tql_result.proofs.print.push_count.Goals as goal

pub returns-in_err-push_all-in-Some : goal.returns-in_err-push_all-in-Some
returns-in_err-push_all-in-Some g c =
    as_text (ap count_text (sym c.in-Some.is)) (ended _ _ c.from_residual.ensures.0 c.in_err-push_all-in-Some.ensures)

pub returns-in_ok-push_all-in-Some : goal.returns-in_ok-push_all-in-Some
returns-in_ok-push_all-in-Some g c =
    as_text (ap count_text (sym c.in-Some.is)) (joined c.in_ok-push_all-in-Some.ensures c.push_decimal.ensures)
