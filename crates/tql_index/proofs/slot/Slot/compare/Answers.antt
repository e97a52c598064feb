use Rattle.tql_index.specs.Slots.{entry_of}
use Rattle.tql_index.proofs.Order.{compared}
use Rattle.tql_index.proofs.slot.Slot.compare.Goals as goal

pub returns : goal.returns
returns c =
    compared (entry_of c.args.self) (entry_of c.args.other) c.compare.result c.cmp.result c.then.result
    c.compare.ensures c.cmp.ensures c.then.ensures
