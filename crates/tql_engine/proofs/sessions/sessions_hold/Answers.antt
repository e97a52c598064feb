use Rattle.tql_engine.proofs.SessionRuns.{sessions_hold}
use Rattle.tql_engine.proofs.sessions.sessions_hold.Goals as goal

pub returns : goal.returns
returns c = sessions_hold c.pruned_history.ensures.runs c.readers_agree.ensures.runs
