use Rattle.tql_plan_screen.proofs.Enough.{enough, whole_decides}
use Rattle.tql_plan_screen.proofs.screen.screens_are_enough.Goals as goal

pub returns-clause-enough : goal.returns-clause-enough
returns-clause-enough c = enough c.safe_part_decides.ensures.decides

pub returns-clause-whole : goal.returns-clause-whole
returns-clause-whole c = whole_decides c.safe_conjuncts_filter.ensures.filter
