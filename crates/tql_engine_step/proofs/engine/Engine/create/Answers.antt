use Rattle.tql_engine_state.proofs.Doing.{create_does}
use Rattle.tql_engine_step.proofs.engine.Engine.create.Goals as goal

pub returns-in-Ok : goal.returns-in-Ok
returns-in-Ok g c s st =
    create_does c.args.self.now c.add_table.new.self s c.args.definition st c.requires.closed
    c.requires.unread (c.in-Ok.ensures.ok s st)

pub returns-in-Err : goal.returns-in-Err
returns-in-Err g c s st = rw c.in-Err.ensures.memory (c.in-Err.ensures.err s st)
