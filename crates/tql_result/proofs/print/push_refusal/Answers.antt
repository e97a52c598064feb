use Rattle.std.proofs.Common.{◌∙◌}
use Rattle.tql_result.proofs.Pushing.{joined, ended, as_text}
use Rattle.tql_result.proofs.print.push_refusal.Goals as goal

pub returns-in_err-push_all : goal.returns-in_err-push_all
returns-in_err-push_all g c = ended _ _ c.from_residual.ensures.0 c.in_err-push_all.ensures

pub returns-in_err-push_all-2 : goal.returns-in_err-push_all-2
returns-in_err-push_all-2 g c =
    joined c.in_ok-push_all.ensures
    (ended _ _ c.from_residual-in_err-push_all-2.ensures.0 (as_text (c.as_bytes.ensures.value
    ∙ c.text.ensures) c.in_err-push_all-2.ensures))

pub returns : goal.returns
returns g c =
    joined c.in_ok-push_all.ensures
    (joined (as_text (c.as_bytes.ensures.value ∙ c.text.ensures) c.in_ok-push_all-2.ensures) c.push_all-3.ensures)
