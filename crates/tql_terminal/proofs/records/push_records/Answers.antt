use Rattle.std.proofs.Common.{ℕ, sym, ap, map, string_bytes}
use Rattle.std.proofs.lemmas.List.{length-map}
use Rattle.tql_result.proofs.Pushing.{joined, ended, as_text}
use Rattle.tql_result_box.specs.Box.{count_line}
use Rattle.tql_terminal.specs.Dashes.{dashed_row}
use Rattle.tql_terminal.specs.Terminal.{records_after}
use Rattle.tql_terminal.proofs.records.push_records.Goals as goal

pub returns-in_err-push_all_records : goal.returns-in_err-push_all_records
returns-in_err-push_all_records g c =
    ended _ _ c.from_residual.ensures.0
    (as_text
    (ap (λ (w : ℕ). records_after 0 w (map string_bytes c.args.names.now)
    (map (λ r. dashed_row r.items) c.args.rows.now)) c.widest.ensures)
    c.in_err-push_all_records.ensures)

pub returns : goal.returns
returns g c =
    joined
    (as_text
    (ap (λ (w : ℕ). records_after 0 w (map string_bytes c.args.names.now)
    (map (λ r. dashed_row r.items) c.args.rows.now)) c.widest.ensures)
    c.in_ok-push_all_records.ensures)
    (as_text (ap count_line (sym (length-map c.args.rows.now (λ r. dashed_row r.items)))) c.push_count.ensures)
