use lib.Utf8.{encode}
use Rattle.std.proofs.Common.{sym, ap}
use Rattle.std.proofs.lemmas.List.{length-map}
use Rattle.std.proofs.lemmas.List.Folds.{flat_map-map}
use Rattle.tql_terminal.specs.Dashes.{dashed_row}
use Rattle.tql_result.proofs.Pushing.{joined, ended, as_text}
use Rattle.tql_result_box.specs.Box.{row_line, count_line}
use Rattle.tql_terminal.proofs.lines.push_lines.Goals as goal

pub returns-in_err-push_head : goal.returns-in_err-push_head
unfolding encode
returns-in_err-push_head g c = ended _ _ c.from_residual.ensures.0 c.in_err-push_head.ensures

pub returns-in_err-push_rows : goal.returns-in_err-push_rows
unfolding encode
returns-in_err-push_rows g c =
    joined c.in_ok-push_head.ensures
    (ended _ _ c.from_residual-in_err-push_rows.ensures.0
    (as_text (sym (flat_map-map (row_line c.args.layouts.now) (λ r. dashed_row r.items) c.args.rows.now))
    c.in_err-push_rows.ensures))

pub returns-in_err-push_rule : goal.returns-in_err-push_rule
unfolding encode
returns-in_err-push_rule g c =
    joined c.in_ok-push_head.ensures
    (joined
    (as_text (sym (flat_map-map (row_line c.args.layouts.now) (λ r. dashed_row r.items) c.args.rows.now))
    c.in_ok-push_rows.ensures)
    (ended _ _ c.from_residual-in_err-push_rule.ensures.0 c.in_err-push_rule.ensures))

pub returns : goal.returns
unfolding encode
returns g c =
    joined c.in_ok-push_head.ensures
    (joined
    (as_text (sym (flat_map-map (row_line c.args.layouts.now) (λ r. dashed_row r.items) c.args.rows.now))
    c.in_ok-push_rows.ensures)
    (joined c.in_ok-push_rule.ensures
    (as_text (ap count_line (sym (length-map c.args.rows.now (λ r. dashed_row r.items))))
    c.push_count.ensures)))
