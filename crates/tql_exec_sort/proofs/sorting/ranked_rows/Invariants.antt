use Rattle.std.proofs.Common.{◌++◌, map, vec_len}
use Rattle.std.specs.Prelude.{All}
use Rattle.tql_spec.specs.Bag.{SameBag}
use Rattle.tql_value.specs.Views.{rows_of}
use Rattle.tql_exec_sort.specs.Rank.{row_in, HasRank}
use Rattle.tql_exec_sort.proofs.sorting.ranked_rows.Given as goal

-- invariant: the rows so far have their ranks, and with those left they are all rows
abbrev pub invariant-loop-row : goal.invariant-loop-row
invariant-loop-row l =
    All (HasRank l.column) l.ranked.items
    × SameBag (map row_in l.ranked.items ++ rows_of l.rows.items) (rows_of l.fn.rows.items)

abbrev pub decreases-loop-row : goal.decreases-loop-row
decreases-loop-row l = vec_len l.rows
