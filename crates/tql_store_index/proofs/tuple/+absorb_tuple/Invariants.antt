use Rattle.std.proofs.Common.{length}
use Rattle.tql_store_index.proofs.tuple.+absorb_tuple.Given as goal

abbrev pub decreases-absorb_tuple : goal.decreases-absorb_tuple
decreases-absorb_tuple l = length l.tuple.now
