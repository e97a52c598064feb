use Rattle.std.proofs.Common.{◌≡◌, drop}
use Rattle.tql_plan.specs.Maps.{steps_keys, steps_maps}
use Rattle.tql_plan.proofs.counts.Counts.with_steps.Given as goal

-- invariant: the counts so far, plus those of the steps left, are the whole counts
abbrev pub invariant-loop-step : goal.invariant-loop-step
invariant-loop-step l = record {
  maps : steps_maps l.counts.maps (drop l.step-index l.steps) ≡ steps_maps l.fn.self.maps l.steps;
  keys : steps_keys l.counts.keys (drop l.step-index l.steps) ≡ steps_keys l.fn.self.keys l.steps;
  intervals : l.counts.intervals ≡ l.fn.self.intervals;
}
