use Rattle.std.proofs.Common.{◌≡◌, map, take}
use Rattle.std.specs.List.{fold}
use Rattle.tql_terminal.specs.Dashes.{dashed_row}
use Rattle.tql_result_box.specs.Layouts.{with_row}
use Rattle.tql_terminal.proofs.layout.add_rows.Given as goal

abbrev pub invariant-loop-row : goal.invariant-loop-row
invariant-loop-row l =
    l.layouts ≡ fold with_row l.initial.layouts (map (λ r. dashed_row r.items) (take l.row-index l.rows))
