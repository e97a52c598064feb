use Rattle.tql_engine.proofs.RunHolds.{run_in_holds}
use Rattle.tql_engine.proofs.Agreeing.{runs_agreeing}
use Rattle.tql_engine.proofs.Kept.{keeps_session}
use Rattle.tql_engine.proofs.runner.run_in.Goals as goal

pub returns-clause-agrees : goal.returns-clause-agrees
returns-clause-agrees t c before fresh s st =
    runs_agreeing c.pruned_history.ensures.runs c.readers_agree.ensures.runs _ _ s _ _ _ _ _ c.run_in.result
    (c.run_in.ensures.runs before fresh s st)

pub returns-clause-holds : goal.returns-clause-holds
returns-clause-holds t c before fresh s h =
    run_in_holds _ _ _ s _ _ _ _ c.run_in.result h.holds (c.run_in.ensures.runs before fresh s h.stands)

pub returns-clause-kept : goal.returns-clause-kept
returns-clause-kept t c s earlier st had = keeps_session s _ _ _ earlier (c.run_in.ensures.kept s st) had
