use Rattle.tql_engine.proofs.Kept.{sessions_are_kept}
use Rattle.tql_engine.proofs.sessions.sessions_kept.Goals as goal

pub returns : goal.returns
returns c = sessions_are_kept
