use Rattle.std.proofs.Common.{[], inl, inr, map, string_bytes, ap, ◌∙◌}
use Rattle.tql_result.proofs.Printing.{values_print}
use Rattle.tql_terminal.specs.Dashes.{dashed_row}
use Rattle.tql_terminal.proofs.Dashing.{all_dashed, same_fitting, same_box}
use Rattle.tql_terminal.proofs.table.write_table.Goals as goal

pub push_fitting-requires : goal.push_fitting-requires
push_fitting-requires g c = values_print _ _ c.as_slice-rows.ensures.value c.requires

pub push_lines-requires : goal.push_lines-requires
push_lines-requires g c = values_print _ _ c.as_slice-rows.ensures.value c.requires

pub returns-in-Ok : goal.returns-in-Ok
returns-in-Ok g c = (
  _,
  inl (same_fitting c.args.width _ _ _ _ _ _ (c.as_slice.ensures.value ∙ c.in-Ok.ensures)
      (ap (map string_bytes) c.as_slice-names.ensures.value)
      (ap (map (λ r. dashed_row r.items)) c.as_slice-rows.ensures.value ∙ all_dashed c.args.table.now.rows.items)),
  c.push_fitting.ensures,
)

pub returns-in-Err : goal.returns-in-Err
returns-in-Err g c = (
  _,
  inr (same_box [] _ _ _ _ (ap (map string_bytes) c.as_slice-names.ensures.value)
      (ap (map (λ r. dashed_row r.items)) c.as_slice-rows.ensures.value ∙ all_dashed c.args.table.now.rows.items)),
  c.push_lines.ensures,
)
