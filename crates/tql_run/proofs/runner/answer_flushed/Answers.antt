use Rattle.std.proofs.Common.{refl}
use Rattle.tql_run.proofs.Kept.{kept_same}
use Rattle.tql_run.proofs.Writing.{ready_flushed, ready_unflushed}
use Rattle.tql_run.proofs.runner.answer_flushed.Goals as goal

pub returns-in-Ok-flush-clause-answers : goal.returns-in-Ok-flush-clause-answers
returns-in-Ok-flush-clause-answers g c before s script from short t =
    ready_flushed _ s script _ _ _ _ from _ _ (c.in-Ok.ensures.answers before s script from short t)
    c.in-Ok-flush.ensures.kept c.in-Ok-flush.ensures.counted refl

pub returns-in-Err-flush-clause-answers : goal.returns-in-Err-flush-clause-answers
returns-in-Err-flush-clause-answers g c before s script from short t =
    ready_unflushed _ c.in-Err-flush.ensures.allowed _ s script _ _ _ _ from _ _
    (c.in-Ok.ensures.answers before s script from short t) c.in-Err-flush.ensures.kept c.in-Err-flush.ensures.counted
    refl

pub returns-in-Ok-flush-clause-kept : goal.returns-in-Ok-flush-clause-kept
returns-in-Ok-flush-clause-kept g c =
    kept_same _ _ _ _ _ _ _ _ c.in-Ok.ensures.kept c.in-Ok-flush.ensures.texts

pub returns-in-Err-flush-clause-kept : goal.returns-in-Err-flush-clause-kept
returns-in-Err-flush-clause-kept g c =
    kept_same _ _ _ _ _ _ _ _ c.in-Ok.ensures.kept c.in-Err-flush.ensures.texts
