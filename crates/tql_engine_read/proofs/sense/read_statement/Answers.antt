use Rattle.tql_engine_read.proofs.SenseLaws.{refused}
use Rattle.tql_engine_read.proofs.sense.read_statement.Goals as goal

pub returns-in-Err : goal.returns-in-Err
returns-in-Err c = refused c.args.text.now c.in-Err.refusal c.in-Err.ensures
