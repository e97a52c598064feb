use Rattle.tql_points.proofs.ChangeRefusals.{modification_refusals, insertion_refusals}
use Rattle.tql_points.proofs.changes_are_refused_at_points.Goals as goal

pub returns-clause-modifications : goal.returns-clause-modifications
returns-clause-modifications c = modification_refusals

pub returns-clause-insertions : goal.returns-clause-insertions
returns-clause-insertions c = insertion_refusals
