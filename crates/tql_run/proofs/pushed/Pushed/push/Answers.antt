use Rattle.tql_run.proofs.Passing.{pushed_cut, pushed_whole}
use Rattle.tql_run.proofs.pushed.Pushed.push.Goals as goal

pub returns-in-Ok-clause-passes : goal.returns-in-Ok-clause-passes
returns-in-Ok-clause-passes g c before =
    pushed_whole _ g.F.Form.reported before _ _ _ _ _ _ _ c.flush_reported-outcome.result _ _ _ _ _ _ c.in-Ok.ensures
    c.flush_reported-outcome.ensures.kept c.flush_reported-outcome.ensures.counted
    c.flush_reported-outcome.ensures.allowed

pub returns-in-Err-clause-passes : goal.returns-in-Err-clause-passes
returns-in-Err-clause-passes g c before = pushed_cut _ g.F.Form.reported before _ _ _ _ _ _ _ _ _ _ _ c.in-Err.ensures
