use Rattle.tql_store.proofs.Pinning.{pin-copies}
use Rattle.tql_store.proofs.snapshot.Snapshot.pinned.Goals as goal

pub returns-clause-copies : goal.returns-clause-copies
returns-clause-copies g c = pin-copies c.args.pin c.args.store.now
