use Rattle.std.proofs.Common.{[]}
use Rattle.tql_run.proofs.Plain.{runs_plain}
use Rattle.tql_engine.proofs.runner.run.Goals as goal

pub returns-clause-ran : goal.returns-clause-ran
returns-clause-ran t c s st = runs_plain _ s _ _ _ _ c.run_in.result (c.run_in.ensures.ran [] tt s st)

pub returns-clause-agrees : goal.returns-clause-agrees
returns-clause-agrees t c s st = c.run_in.ensures.agrees [] tt s st

pub returns-clause-holds : goal.returns-clause-holds
returns-clause-holds t c s h = runs_plain _ s _ _ _ _ c.run_in.result (c.run_in.ensures.holds [] tt s h)

pub returns-clause-kept : goal.returns-clause-kept
returns-clause-kept t c s earlier st had = c.run_in.ensures.kept s earlier st had
