use Rattle.tql_store_index.proofs.Linking.{HaveTurned}
use Rattle.tql_store_index.specs.ValueIndexes.{IsCleared}
use Rattle.tql_store_index.proofs.value_indexes.clear_each.Given as goal

-- the first i indexes are empty
abbrev pub invariant-loop-i : goal.invariant-loop-i
invariant-loop-i g l = HaveTurned IsCleared l.i l.fn.indexes l.indexes
