use Rattle.std.proofs.Common.{[]}
use Rattle.tql_run.proofs.Plain.{runs_plain}
use Rattle.tql_check.proofs.check.check_script.Goals as goal

pub returns : goal.returns
returns g c s = runs_plain _ s _ _ _ _ c.check_script_in.result (c.check_script_in.ensures [] tt s)
