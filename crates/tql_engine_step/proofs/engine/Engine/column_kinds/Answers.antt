use Rattle.tql_engine_step.proofs.Reading.{stands_read}
use Rattle.tql_engine_step.proofs.engine.Engine.column_kinds.Goals as goal

pub returns : goal.returns
returns g c s st = c.column_kinds.ensures s (stands_read _ _ s c.held.ensures st)
