use Rattle.std.proofs.Common.{◌≡◌, ◌++◌, map}
use Rattle.tql_value.specs.Views.{rows_of}
use Rattle.tql_exec_sort.specs.Rank.{row_in}
use Rattle.tql_exec_sort.proofs.sorting.put_back.Given as goal

-- invariant: the list is the original rows, followed by the rows put back so far
abbrev pub invariant-loop-it : goal.invariant-loop-it
invariant-loop-it l = rows_of l.rows.items ≡ rows_of l.fn.rows.items ++ map row_in l.yielded
