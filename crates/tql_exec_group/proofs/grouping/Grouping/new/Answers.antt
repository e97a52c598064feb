-- The operands of the aggregates are there.
use Rattle.tql_exec_group.proofs.Collected.{operands_there}
use Rattle.tql_exec_group.proofs.grouping.Grouping.new.Goals as goal

pub invariant_of-result : goal.invariant_of-result
invariant_of-result c = record {
  placed = c.in_ok-places.ensures;
  there = operands_there c.args.terms.now c.in_ok-steps.steps c.in_ok-steps.ensures.steps;
}
