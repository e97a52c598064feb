use Rattle.std.proofs.Common.{length}
use Rattle.tql_key_rows.proofs.coming.+compare_with.Given as goal

abbrev pub decreases-compare_with : goal.decreases-compare_with
decreases-compare_with l = length l.columns.now
