use Rattle.std.proofs.Common.{◌≡◌, List, ℕ, refl, sym, ap, ◌∙◌, map, drop, string_bytes}
use Rattle.tql_spec.specs.Datum.{Datum}
use Rattle.tql_result.proofs.Pushing.{step, stop, pushed_whole}
use Rattle.tql_result_box.proofs.Columns.{sent_as}
use Rattle.tql_terminal.specs.Dashes.{dashed, dashed_value}
use Rattle.tql_terminal.specs.Terminal.{field}
use Rattle.tql_terminal.proofs.Dashing.{fields_next, fields_end, names_dropped}
use Rattle.tql_terminal.proofs.records.push_fields.Goals as goal

pub returns-in_err-push_field : goal.returns-in_err-push_field
returns-in_err-push_field g c =
    stop _ _ c.from_residual.ensures.0 c.loop-cell.invariant
    (fields_next dashed_value c.args.width (map string_bytes c.loop-cell.behind.now)
    (drop 1 (map string_bytes c.loop-cell.behind.now)) c.args.cells.now
    c.loop-cell.cell-index c.cell-item.result _ c.loop-cell-test.true c.cell-item.is
    refl
    (ap (λ (n : List ℕ). field c.args.width n (dashed_value c.cell-item.result)) (sym c.front_name.ensures)
    ∙ ap (λ (d : Datum). field c.args.width c.front_name.result.now d)
    (sym (c.shown_view.ensures.value ∙ ap dashed c.view.ensures))))
    c.in_err-push_field.ensures

pub loop-cell-preserved : goal.loop-cell-preserved
loop-cell-preserved g c =
    step _ c.loop-cell.invariant
    (fields_next dashed_value c.args.width (map string_bytes c.loop-cell.behind.now)
    (map string_bytes c.other_names-behind.result.now) c.args.cells.now
    c.loop-cell.cell-index c.cell-item.result _ c.loop-cell-test.true c.cell-item.is
    (ap (map string_bytes) c.other_names-behind.ensures ∙ names_dropped string_bytes c.loop-cell.behind.now)
    (ap (λ (n : List ℕ). field c.args.width n (dashed_value c.cell-item.result)) (sym c.front_name.ensures)
    ∙ ap (λ (d : Datum). field c.args.width c.front_name.result.now d)
    (sym (c.shown_view.ensures.value ∙ ap dashed c.view.ensures))))
    c.in_ok-push_field.ensures

pub returns : goal.returns
returns g c =
    pushed_whole _ refl
    (sent_as
    (fields_end dashed_value c.args.width (map string_bytes c.loop-cell.behind.now) c.args.cells.now
    c.loop-cell.cell-index c.loop-cell-test.false)
    c.loop-cell.invariant)
