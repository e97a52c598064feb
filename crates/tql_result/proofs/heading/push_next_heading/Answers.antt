use Rattle.std.proofs.Common.{refl}
use Rattle.tql_result.proofs.Pushing.{sent_none, step, stop, last}
use Rattle.tql_result.proofs.heading.push_next_heading.Goals as goal

pub returns-in_err-push_all : goal.returns-in_err-push_all
returns-in_err-push_all g c = stop _ _ c.from_residual.ensures.0 (sent_none _ _ _) refl c.in_err-push_all.ensures

pub returns : goal.returns
returns g c = last _ (step _ (sent_none _ _ _) refl c.in_ok-push_all.ensures) refl c.push_heading.ensures
