use Rattle.std.proofs.Common.{◌≡◌, ◌≤◌, [], ◌∙◌, ap, map, arith, length, string_bytes}
use Rattle.tql_result.proofs.Printing.{values_print}
use Rattle.tql_result.specs.Replies.{table_rows, headings_of}
use Rattle.tql_result_box.specs.Box.{box_layouts}
use Rattle.tql_result_box.proofs.RowByRow.{kept_whole, layouts_of_rows}
use Rattle.tql_terminal.specs.Dashes.{dashed_row, dashed_rows}
use Rattle.tql_terminal.proofs.Dashing.{all_dashed}
use Rattle.tql_terminal.proofs.layout.shown_layouts.Goals as goal

pub add_rows-requires : goal.add_rows-requires
add_rows-requires c = values_print _ _ c.as_slice-2.ensures.value c.requires

pub returns : goal.returns
returns c =
    let layouts = c.in_ok-layouts.layouts in
    let len : length c.add_rows.new.layouts ≡ layouts.len = omega arith in
    let old : length layouts.items ≤ layouts.len = omega arith in
    kept_whole c.add_rows.new.layouts layouts.items layouts.len len old
    ∙ layouts_of_rows (headings_of c.args.table.now) (dashed_rows (table_rows c.args.table.now)) _ _ _
    (c.as_mut_slice.ensures.value ∙ c.in_ok-layouts.ensures
    ∙ ap (λ l. box_layouts (map string_bytes l) []) c.as_slice.ensures.value)
    (ap (map (λ r. dashed_row r.items)) c.as_slice-2.ensures.value ∙ all_dashed c.args.table.now.rows.items)
    c.add_rows.ensures
