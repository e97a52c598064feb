use Rattle.std.specs.Prelude.{◌≡◌, ℕ, ◌<◌}
use Rattle.tql_period.specs.Points.{points_of}
use Rattle.tql_store_index.specs.Basis.{filed, stands_by}
use Rattle.tql_store_index.specs.Standing.{stands}
use Rattle.tql_store_index.specs.ValueIndexes.{index_at}
use Rattle.tql_store_index.proofs.value_indexes.all_have.Given as goal

-- each index so far has the period
abbrev pub invariant-loop-index : goal.invariant-loop-index
invariant-loop-index g l =
    (i : ℕ) → i < l.index-index → stands (index_at l.indexes i).standing l.seat
    ≡ stands_by (index_at l.indexes i).basis (filed l.row (points_of l.during))
