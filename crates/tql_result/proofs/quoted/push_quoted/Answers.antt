use Rattle.std.proofs.Common.{refl}
use Rattle.tql_result.proofs.Pushing.{sent_none, step, stop, last}
use Rattle.tql_result.proofs.quoted.push_quoted.Goals as goal

pub returns-in_err-push_all : goal.returns-in_err-push_all
returns-in_err-push_all g c = stop _ _ c.from_residual.ensures.0 (sent_none _ _ _) refl c.in_err-push_all.ensures

pub returns-in_err-push_doubled : goal.returns-in_err-push_doubled
returns-in_err-push_doubled g c =
    stop _ _ c.from_residual-in_err-push_doubled.ensures.0 (step _ (sent_none _ _ _) refl c.in_ok-push_all.ensures)
    refl c.in_err-push_doubled.ensures

pub returns : goal.returns
returns g c = last _
    (step _ (step _ (sent_none _ _ _) refl c.in_ok-push_all.ensures) refl c.in_ok-push_doubled.ensures) refl
    c.push_all-2.ensures
