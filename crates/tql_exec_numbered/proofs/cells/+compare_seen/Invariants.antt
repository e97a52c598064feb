use Rattle.std.proofs.Common.{length}
use Rattle.tql_exec_numbered.proofs.cells.+compare_seen.Given as goal

abbrev pub decreases-compare_seen : goal.decreases-compare_seen
decreases-compare_seen l = length l.values.now
