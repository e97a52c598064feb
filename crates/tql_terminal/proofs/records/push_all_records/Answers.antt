use Rattle.std.proofs.Common.{◌≡◌, ◌+◌, List, ℕ, refl, sym, ap, map, string_bytes}
use Rattle.tql_value.specs.declared.value.Value.{Value}
use Rattle.tql_result.proofs.Pushing.{step, stop, pushed_whole}
use Rattle.tql_result_box.proofs.Columns.{sent_as}
use Rattle.tql_terminal.specs.Dashes.{dashed_row}
use Rattle.tql_terminal.specs.Terminal.{record_text}
use Rattle.tql_terminal.proofs.Dashing.{records_next, records_end}
use Rattle.tql_terminal.proofs.records.push_all_records.Goals as goal

pub returns-in_err-push_record : goal.returns-in_err-push_record
returns-in_err-push_record g c =
    stop _ _ c.from_residual.ensures.0 c.loop-row.invariant.sent
    (records_next (λ r. dashed_row r.items) c.loop-row.number c.args.width (map string_bytes c.args.names.now)
    c.args.rows.now c.loop-row.row-index c.row-item.result _ c.loop-row-test.true c.row-item.is
    (ap (λ (cells : List Value).
    record_text (c.loop-row.number + 1) c.args.width (map string_bytes c.args.names.now) (dashed_row cells))
    (sym c.as_slice.ensures.value)))
    c.in_err-push_record.ensures

pub loop-row-preserved : goal.loop-row-preserved
loop-row-preserved g c = record {
  at = ap (λ (n : ℕ). n + 1) c.loop-row.invariant.at;
  sent = step _ c.loop-row.invariant.sent
      (records_next (λ r. dashed_row r.items) c.loop-row.number c.args.width (map string_bytes c.args.names.now)
      c.args.rows.now c.loop-row.row-index c.row-item.result _ c.loop-row-test.true c.row-item.is
      (ap (λ (cells : List Value).
      record_text (c.loop-row.number + 1) c.args.width (map string_bytes c.args.names.now) (dashed_row cells))
      (sym c.as_slice.ensures.value)))
      c.in_ok-push_record.ensures;
}

pub returns : goal.returns
returns g c =
    pushed_whole _ refl
    (sent_as
    (records_end (λ r. dashed_row r.items) c.loop-row.number c.args.width (map string_bytes c.args.names.now)
    c.args.rows.now c.loop-row.row-index c.loop-row-test.false)
    c.loop-row.invariant.sent)
