use Rattle.std.proofs.Common.{◌≡◌, ◌++◌, ◌≤◌, drop, length, take}
use Rattle.tql_value.specs.Views.{row_of}
use Rattle.tql_exec_numbered.specs.Numbered.{seen}
use Rattle.tql_exec_numbered.proofs.rows.add_copies.Given as goal

-- invariant: the values, followed by those left, are those before and all of the row; those before are not changed
abbrev pub invariant-loop-view : goal.invariant-loop-view
invariant-loop-view l =
    (row_of l.values.items ++ seen (drop l.view-index l.row) ≡ row_of l.fn.values.items ++ seen l.row)
    × (take (length l.fn.values.items) l.values.items ≡ l.fn.values.items)
    × (length l.fn.values.items ≤ length l.values.items)
