use Rattle.test_mutants.proofs.Gaps.{false_is_right, true_is_wrong}
use Rattle.test_mutants.proofs.coverage_with_gap.Goals as goal

pub returns-clause-right : goal.returns-clause-right
returns-clause-right c = false_is_right

pub returns-clause-mutant : goal.returns-clause-mutant
returns-clause-mutant c = true_is_wrong
