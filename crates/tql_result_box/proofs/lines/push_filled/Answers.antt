use Rattle.std.proofs.Common.{ℕ, ◌-◌, ◌∙◌, ap}
use Rattle.tql_value.specs.Views.{datum_of_view}
use Rattle.tql_result.proofs.Pushing.{joined, as_text}
use Rattle.tql_result_box.proofs.Columns.{filled_right, filled_left}
use Rattle.tql_result_box.proofs.lines.push_filled.Goals as goal

pub returns-in_ok-push_times : goal.returns-in_ok-push_times
returns-in_ok-push_times g c =
    as_text
    (filled_right c.args.width c.saturating_sub-blanks.result c.args.is_right (datum_of_view c.args.cell)
    c.if-is_right.true
    (c.saturating_sub-blanks.ensures ∙ ap (λ (k : ℕ). c.args.width - k) c.value_width.ensures))
    (joined c.in_ok-push_times.ensures c.push_shown.ensures)

pub returns-in_ok-push_shown : goal.returns-in_ok-push_shown
returns-in_ok-push_shown g c =
    as_text
    (filled_left c.args.width c.saturating_sub-blanks.result c.args.is_right (datum_of_view c.args.cell)
    c.if-is_right.false
    (c.saturating_sub-blanks.ensures ∙ ap (λ (k : ℕ). c.args.width - k) c.value_width.ensures))
    (joined c.in_ok-push_shown.ensures c.push_times-else-is_right.ensures)
