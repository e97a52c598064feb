use Rattle.std.proofs.Common.{refl}
use Rattle.tql_result.proofs.Pushing.{sent_none, step, stop, last}
use Rattle.tql_result.proofs.heading.push_headings.Goals as goal

pub returns-in_err-push_joined : goal.returns-in_err-push_joined
returns-in_err-push_joined g c = stop _ _ c.from_residual.ensures.0 (sent_none _ _ _) refl c.in_err-push_joined.ensures

pub returns : goal.returns
returns g c = last _ (step _ (sent_none _ _ _) refl c.in_ok-push_joined.ensures) refl c.push_all.ensures
