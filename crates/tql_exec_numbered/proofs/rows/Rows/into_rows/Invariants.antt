use Rattle.std.proofs.Common.{◌≡◌, ◌++◌, length, reverse}
use Rattle.tql_value.specs.Views.{rows_of}
use Rattle.tql_exec_numbered.proofs.rows.Rows.into_rows.Given as goal

-- invariant: the rows left, followed by those taken from the last one on, are all
abbrev pub invariant-loop-rows : goal.invariant-loop-rows
invariant-loop-rows l = l.fn.self ≡ l.left ++ rows_of (reverse l.rows.items)

abbrev pub decreases-loop-rows : goal.decreases-loop-rows
decreases-loop-rows l = length l.left
