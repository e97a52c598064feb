use Rattle.std.proofs.Common.{refl, sym, ap, ◌∙◌}
use Rattle.std.specs.Prelude.{Bool}
use Rattle.std.specs.List.{concat}
use Rattle.tql_spec.specs.Datum.{Datum}
use Rattle.tql_terminal.specs.Dashes.{dashed, dashed_value}
use Rattle.tql_result.proofs.Pushing.{step, stop, pushed_whole}
use Rattle.tql_result_box.specs.Box.{boxed, value_box}
use Rattle.tql_result_box.specs.declared.layout.Layout.{Layout}
use Rattle.tql_result_box.proofs.Columns.{laid_next, laid_end, sent_as}
use Rattle.tql_terminal.proofs.lines.push_cells.Goals as goal

pub returns-in_err-push_boxed : goal.returns-in_err-push_boxed
returns-in_err-push_boxed g c =
    stop _ _ c.from_residual.ensures.0 c.loop-cell.invariant
    (laid_next value_box dashed_value c.loop-cell.behind.now c.next_layout.result.1.now c.args.cells.now
    c.loop-cell.cell-index c.cell-item.result _ c.loop-cell-test.true c.cell-item.is
    c.next_layout.ensures.others
    (ap (λ (l : Layout). value_box l (dashed_value c.cell-item.result)) (sym c.next_layout.ensures.first)
    ∙ ap (λ (b : Bool). boxed c.next_layout.result.0.width b (dashed_value c.cell-item.result))
    (sym c.unwrap_or.ensures)
    ∙ ap (λ (d : Datum). boxed c.next_layout.result.0.width c.unwrap_or.result d)
    (sym (c.shown_view.ensures.value ∙ ap dashed c.view.ensures))))
    c.in_err-push_boxed.ensures

pub loop-cell-preserved : goal.loop-cell-preserved
loop-cell-preserved g c =
    step _ c.loop-cell.invariant
    (laid_next value_box dashed_value c.loop-cell.behind.now c.next_layout.result.1.now c.args.cells.now
    c.loop-cell.cell-index c.cell-item.result _ c.loop-cell-test.true c.cell-item.is
    c.next_layout.ensures.others
    (ap (λ (l : Layout). value_box l (dashed_value c.cell-item.result)) (sym c.next_layout.ensures.first)
    ∙ ap (λ (b : Bool). boxed c.next_layout.result.0.width b (dashed_value c.cell-item.result))
    (sym c.unwrap_or.ensures)
    ∙ ap (λ (d : Datum). boxed c.next_layout.result.0.width c.unwrap_or.result d)
    (sym (c.shown_view.ensures.value ∙ ap dashed c.view.ensures))))
    c.in_ok-push_boxed.ensures

pub returns : goal.returns
returns g c =
    pushed_whole _ refl
    (sent_as
    (ap concat
    (laid_end value_box dashed_value c.loop-cell.behind.now c.args.cells.now c.loop-cell.cell-index
    c.loop-cell-test.false))
    c.loop-cell.invariant)
