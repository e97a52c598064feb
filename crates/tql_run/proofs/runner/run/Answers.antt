use Rattle.std.proofs.Common.{[]}
use Rattle.tql_run.proofs.Plain.{runs_plain}
use Rattle.tql_run.proofs.runner.run.Goals as goal

pub returns-clause-runs : goal.returns-clause-runs
returns-clause-runs g c s st = runs_plain _ s _ _ _ _ c.run_in.result (c.run_in.ensures.runs [] tt s st)
