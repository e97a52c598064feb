use Rattle.std.specs.Prelude.{◌≡◌, ℕ, ◌<◌, None}
use Rattle.tql_store_index.specs.Standing.{stands}
use Rattle.tql_store_index.specs.ValueIndexes.{index_at}
use Rattle.tql_store_index.proofs.value_indexes.some_has.Given as goal

-- no index so far has a period for the row slot
abbrev pub invariant-loop-index : goal.invariant-loop-index
invariant-loop-index g l = (i : ℕ) → i < l.index-index → stands (index_at l.indexes i).standing l.seat ≡ None
