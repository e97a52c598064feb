use Rattle.std.proofs.Common.{◌∙◌}
use Rattle.tql_run.proofs.Kept.{holds_finished}
use Rattle.tql_run.proofs.Writing.{wrote_ended, wrote_rest, failed_as}
use Rattle.tql_run.proofs.runner.answer_rest.Goals as goal

pub returns-in-Ok-clause-ends : goal.returns-in-Ok-clause-ends
returns-in-Ok-clause-ends g c before s script from short t =
    let ended = wrote_ended _ s script _ _ _ _ _ _ _ t c.finish.ensures in
    wrote_rest _ s script _ _ _ _ _ _ _ (c.in-Ok.ensures.tallies.ended ∙ c.finish.ensures.ended)
    c.in-Ok.ensures.flushed (c.in-Ok.ensures.answers before s script from short ended)

pub returns-in-Err-clause-ends : goal.returns-in-Err-clause-ends
returns-in-Err-clause-ends g c before s script from short t =
    let ended = wrote_ended _ s script _ _ _ _ _ _ _ t c.finish.ensures in
    failed_as _ s script _ _ _ _ _ _ (c.in-Err.ensures.tallies.ended ∙ c.finish.ensures.ended)
    (c.in-Err.ensures.answers before s script from short ended)

pub returns-in-Ok-clause-kept : goal.returns-in-Ok-clause-kept
returns-in-Ok-clause-kept g c has = c.in-Ok.ensures.kept (holds_finished _ _ c.finish.ensures has)

pub returns-in-Err-clause-kept : goal.returns-in-Err-clause-kept
returns-in-Err-clause-kept g c has = c.in-Err.ensures.kept (holds_finished _ _ c.finish.ensures has)
