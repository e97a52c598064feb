use Rattle.std.proofs.Common.{◌≡◌, ◌+◌, ◌-◌, ◌≤◌, length}
use Rattle.tql_exec_group.specs.Steps.{AreSteps}
use Rattle.tql_exec_group.proofs.steps.steps_in.Given as goal

-- invariant: the nodes so far are those up to this position
abbrev pub invariant-loop-at : goal.invariant-loop-at
invariant-loop-at l = record {
  steps : AreSteps l.terms l.steps;
  from : l.steps.from ≡ l.fn.stretch.from;
  next : l.steps.from + length l.steps.nodes.items ≡ l.at;
  below : l.at ≤ l.fn.stretch.last;
}

abbrev pub decreases-loop-at : goal.decreases-loop-at
decreases-loop-at l = l.fn.stretch.last - l.at
