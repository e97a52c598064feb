use Rattle.std.proofs.Common.{◌≡◌, []}
use Rattle.std.specs.Prelude.{All}
use Rattle.tql_store_index.specs.ValueIndexes.{ValueIndex}
use Rattle.tql_store_rows.proofs.past.past_indexes.Given as goal

-- each index so far is empty
abbrev pub invariant-loop-columns : goal.invariant-loop-columns
invariant-loop-columns g l = All (λ (k : ValueIndex). k.standing ≡ []) l.indexes
