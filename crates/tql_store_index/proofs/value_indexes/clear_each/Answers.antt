use Rattle.std.proofs.Common.{rules, arith}
use Rattle.std.proofs.lemmas.Grind.{common_steps}
use Rattle.tql_store_index.proofs.Linking.{turned_at}
use Rattle.tql_store_index.specs.ValueIndexes.{IsCleared}
use Rattle.tql_store_index.proofs.value_indexes.clear_each.Goals as goal

pub loop-i-preserved : goal.loop-i-preserved
loop-i-preserved g c =
    turned_at IsCleared c.loop-i.i c.args.indexes.now c.loop-i.indexes c.index-indexes-i.result c.clear.new.self
    (first_of (search rules, grind (arith, common_steps))) c.clear.ensures c.loop-i.invariant
