use Rattle.test_mutants.proofs.Unsought.{key_is_wrong, nothing_is_right}
use Rattle.test_mutants.proofs.lookup_behind_a_calculation.Goals as goal

pub returns-clause-right : goal.returns-clause-right
returns-clause-right c = nothing_is_right

pub returns-clause-mutant : goal.returns-clause-mutant
returns-clause-mutant c = key_is_wrong
