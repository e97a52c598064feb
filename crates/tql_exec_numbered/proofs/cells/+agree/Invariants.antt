use Rattle.std.proofs.Common.{length}
use Rattle.tql_exec_numbered.proofs.cells.+agree.Given as goal

abbrev pub decreases-agree : goal.decreases-agree
decreases-agree l = length l.values.now
