use Rattle.tql_turns.proofs.Following.{agrees_alone, runs_are_divided, runs_are_joined, models_go_on}
use Rattle.tql_turns.proofs.runs_follow.Goals as goal

pub returns-clause-alone : goal.returns-clause-alone
returns-clause-alone c = agrees_alone

pub returns-clause-divided : goal.returns-clause-divided
returns-clause-divided c = runs_are_divided

pub returns-clause-joined : goal.returns-clause-joined
returns-clause-joined c = runs_are_joined

pub returns-clause-on : goal.returns-clause-on
returns-clause-on c = models_go_on
