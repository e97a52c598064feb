use Rattle.tql_store.proofs.Putting.{set-put}
use Rattle.tql_store.proofs.turns.set_rows.Goals as goal

pub returns-clause-put : goal.returns-clause-put
returns-clause-put g c = set-put c.args.number c.args.new c.args.rows.now c.requires
