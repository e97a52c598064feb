use Rattle.std.proofs.Common.{map}
use Rattle.tql_catalog.specs.Definitions.{key_of}
use Rattle.tql_bind_table.specs.KeyLists.{columns_in, listed_key}
use Rattle.tql_bind_table.proofs.KeyListLaws.{flat_more}
use Rattle.tql_bind_table.proofs.parent_keys.key_lists.Goals as goal

pub loop-key-preserved : goal.loop-key-preserved
loop-key-preserved c =
    flat_more (listed_key c.args.by_period) key_of c.keys-key-items.result.now c.loop-key.key-index c.key-item.result
    (map columns_in c.loop-key.lists.items) (map columns_in c.add_list.new.lists.items) _ c.loop-key-test.true
    c.key-item.is c.in_ok-add_list.ensures c.loop-key.invariant
