use Rattle.std.proofs.Common.{sym, ap}
use Rattle.tql_terminal.specs.Dashes.{dashed_row}
use Rattle.tql_result.proofs.Joining.{flat_map_next}
use Rattle.tql_result.proofs.Pushing.{step, stop}
use Rattle.tql_result_box.specs.Box.{row_line}
use Rattle.tql_terminal.proofs.lines.push_rows.Goals as goal

pub returns-in_err-push_row : goal.returns-in_err-push_row
returns-in_err-push_row g c =
    stop _ _ c.from_residual.ensures.0 c.loop-row.invariant
    (flat_map_next (λ r. row_line c.args.layouts.now (dashed_row r.items)) _ _ _ _ c.loop-row-test.true c.row-item.is
    (ap (λ l. row_line c.args.layouts.now (dashed_row l)) (sym c.as_slice.ensures.value)))
    c.in_err-push_row.ensures

pub loop-row-preserved : goal.loop-row-preserved
loop-row-preserved g c =
    step _ c.loop-row.invariant
    (flat_map_next (λ r. row_line c.args.layouts.now (dashed_row r.items)) _ _ _ _ c.loop-row-test.true c.row-item.is
    (ap (λ l. row_line c.args.layouts.now (dashed_row l)) (sym c.as_slice.ensures.value)))
    c.in_ok-push_row.ensures
