use Rattle.std.proofs.Common.{length}
use Rattle.tql_exec_numbered.proofs.runs.+join.Given as goal

abbrev pub decreases-join : goal.decreases-join
decreases-join l = length l.runs.now
