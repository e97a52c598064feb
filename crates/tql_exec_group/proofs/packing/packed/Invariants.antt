use Rattle.std.proofs.Common.{◌≡◌, ◌++◌, drop}
use Rattle.tql_value.specs.Views.{rows_of}
use Rattle.tql_exec_group.proofs.packing.packed.Given as goal

-- the rows so far, followed by those of the remaining lists, are all rows
abbrev pub invariant-loop-row : goal.invariant-loop-row
invariant-loop-row l = l.packed.items ++ rows_of (drop l.row-index l.row-items) ≡ rows_of l.fn.rows.items
