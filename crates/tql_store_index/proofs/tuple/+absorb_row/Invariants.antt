use Rattle.std.proofs.Common.{length}
use Rattle.tql_store_index.proofs.tuple.+absorb_row.Given as goal

abbrev pub decreases-absorb_row : goal.decreases-absorb_row
decreases-absorb_row l = length l.columns.now
