use Rattle.std.proofs.Common.{refl}
use Rattle.tql_run.proofs.Kept.{keeps_none}
use Rattle.tql_run.proofs.runner.run_in.Goals as goal

pub returns-in_err-buffer-clause-kept : goal.returns-in_err-buffer-clause-kept
returns-in_err-buffer-clause-kept g c s st = keeps_none _ s _ _ _ st refl
