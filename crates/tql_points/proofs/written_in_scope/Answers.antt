use Rattle.tql_points.proofs.PointRuns.{creations_in_scope, statements_in_scope}
use Rattle.tql_points.proofs.written_in_scope.Goals as goal

pub returns-clause-creations : goal.returns-clause-creations
returns-clause-creations c = creations_in_scope

pub returns-clause-statements : goal.returns-clause-statements
returns-clause-statements c = statements_in_scope
