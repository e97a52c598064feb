use Rattle.std.proofs.Common.{◌≡◌, [], false}
use Rattle.test_cases.proofs.steps.step_script.Given as goal

abbrev pub invariant-loop-part : goal.invariant-loop-part
invariant-loop-part l = record { unended : l.splitter.ended ≡ false; drained : l.splitter.ready ≡ [] }
