use Rattle.std.proofs.Common.{sym, ◌∙◌}
use Rattle.tql_terminal.specs.Dashes.{dashed_value}
use Rattle.tql_result_box.proofs.RowByRow.{row_end}
use Rattle.tql_terminal.proofs.layout.add_row.Goals as goal

pub returns-else-place-cells : goal.returns-else-place-cells
returns-else-place-cells c =
    sym (c.columns.invariant
    ∙ row_end dashed_value c.columns.layouts c.args.cells.now c.columns.place c.if-place-cells.false)
