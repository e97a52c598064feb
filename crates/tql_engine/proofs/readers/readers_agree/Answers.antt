use Rattle.tql_engine.proofs.ReaderRuns.{runs_stable, runs_alike, scripts_alike, steps_stable, steps_alike}
use Rattle.tql_engine.proofs.readers.readers_agree.Goals as goal

pub returns-clause-runs : goal.returns-clause-runs
returns-clause-runs c = runs_stable c.one_sense.ensures c.pinned_readers.ensures.stable

pub returns-clause-agree : goal.returns-clause-agree
returns-clause-agree c = runs_alike c.one_sense.ensures c.one_reading.ensures

pub returns-clause-stable : goal.returns-clause-stable
returns-clause-stable c = steps_stable (returns-clause-runs c)

pub returns-clause-scripts : goal.returns-clause-scripts
returns-clause-scripts c = scripts_alike (returns-clause-agree c)

pub returns-clause-steps : goal.returns-clause-steps
returns-clause-steps c = steps_alike (returns-clause-agree c)
