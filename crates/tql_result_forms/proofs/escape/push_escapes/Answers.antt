use Rattle.std.proofs.Common.{refl}
use Rattle.tql_result.proofs.Pushing.{step, stop, last}
use Rattle.tql_result_forms.proofs.escape.push_escapes.Goals as goal

pub returns-in_err-push_all : goal.returns-in_err-push_all
returns-in_err-push_all g c =
    stop _ _ c.from_residual.ensures.0 c.loop-front.invariant c.in-Some.ensures.parts c.in_err-push_all.ensures

pub returns-in_err-push_escaped : goal.returns-in_err-push_escaped
returns-in_err-push_escaped g c =
    stop _ _ c.from_residual-in_err-push_escaped.ensures.0
    (step _ c.loop-front.invariant c.in-Some.ensures.parts c.in_ok-push_all.ensures) refl
    c.in_err-push_escaped.ensures

pub loop-front-preserved : goal.loop-front-preserved
loop-front-preserved g c =
    step _ (step _ c.loop-front.invariant c.in-Some.ensures.parts c.in_ok-push_all.ensures) refl
    c.in_ok-push_escaped.ensures

pub returns : goal.returns
returns g c = last _ c.loop-front.invariant c.in_default.ensures.parts c.push_all-2.ensures
