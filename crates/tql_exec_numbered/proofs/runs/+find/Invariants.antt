use Rattle.std.proofs.Common.{length}
use Rattle.tql_exec_numbered.proofs.runs.+find.Given as goal

abbrev pub decreases-find : goal.decreases-find
decreases-find l = length l.runs.now
