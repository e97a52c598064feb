use Rattle.std.proofs.Common.{◌≡◌, ◌-◌, ◌++◌, length, take, drop}
use Rattle.tql_terminal.specs.Dashes.{dashed_row}
use Rattle.tql_result_box.specs.Layouts.{with_row}
use Rattle.tql_terminal.proofs.layout.add_row.Given as goal

abbrev pub decreases-columns : goal.decreases-columns
decreases-columns l = length l.layouts - l.place

abbrev pub invariant-columns : goal.invariant-columns
invariant-columns l =
    with_row l.initial.layouts (dashed_row l.cells)
    ≡ take l.place l.layouts ++ with_row (drop l.place l.layouts) (dashed_row (drop l.place l.cells))
