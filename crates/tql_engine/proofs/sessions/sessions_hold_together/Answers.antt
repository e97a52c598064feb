use Rattle.tql_turns.proofs.Merge.{sessions_merge_on}
use Rattle.tql_engine.specs.Together.{engine_sessions}
use Rattle.tql_engine.proofs.Together.{sessions_hold_together, steps_are_apart}
use Rattle.tql_engine.proofs.sessions.sessions_hold_together.Goals as goal

pub returns-clause-together : goal.returns-clause-together
returns-clause-together c = sessions_hold_together c.pruned_history.ensures.runs c.readers_agree.ensures.runs

pub returns-clause-steps : goal.returns-clause-steps
returns-clause-steps c = steps_are_apart

pub returns-clause-on : goal.returns-clause-on
returns-clause-on c = sessions_merge_on engine_sessions
