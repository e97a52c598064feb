use Rattle.std.proofs.Common.{◌≤◌}
use Rattle.tql_exec_group.proofs.steps.first_needed.Given as goal

-- invariant: the first position so far is not past the first of the stretch
abbrev pub invariant-loop-from : goal.invariant-loop-from
invariant-loop-from l = record { low : l.from ≤ l.fn.stretch.from; high : l.at ≤ l.fn.stretch.last }

abbrev pub decreases-loop-from : goal.decreases-loop-from
decreases-loop-from l = l.at
