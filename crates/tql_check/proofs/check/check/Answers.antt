use Rattle.std.proofs.Common.{sym, ◌∙◌}
use Rattle.tql_check.proofs.Verdicts.{narrow_checks, wide_checks, fault_checks}
use Rattle.tql_check.proofs.check.check.Goals as goal

pub returns-in-Ok-clause-answered : goal.returns-in-Ok-clause-answered
returns-in-Ok-clause-answered c s = wide_checks s _ c.in-Ok.tree c.in-Ok.ensures (sym c.is_too_wide.ensures
    ∙ c.if-is_too_wide.true)

pub returns-in-Ok-2-clause-answered : goal.returns-in-Ok-2-clause-answered
returns-in-Ok-2-clause-answered c s = narrow_checks s _ c.in-Ok.tree c.in-Ok.ensures (sym c.is_too_wide.ensures
    ∙ c.if-is_too_wide.false)

pub returns-in-Err-clause-answered : goal.returns-in-Err-clause-answered
returns-in-Err-clause-answered c s = fault_checks s _ c.in-Err.refusal c.in-Err.ensures
