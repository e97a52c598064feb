use Rattle.std.proofs.Common.{◌≡◌, ◌+◌, length, ap, ◌∙◌, arith, length-append}
use Rattle.tql_value.specs.Views.{datum_of_view, row_of, rows_of}
use Rattle.tql_host_cells.specs.Cells.{cell, text_in}
use Rattle.tql_host_cells.specs.Block.{column_of, text_length, texts}
use Rattle.tql_host_cells.proofs.Columns.{cells_from, cells_next, cells_end}
use Rattle.tql_host_cells.proofs.Most.{above_sum, most_exceeded, most_fits}
use Rattle.tql_host_cells.proofs.block.text_bytes.Goals as goal

pub loop-row-preserved : goal.loop-row-preserved
loop-row-preserved c =
    let d = datum_of_view c.cell_of.result in
    let next = cells_next c.args.column c.loop-row.row-index c.args.rows.now c.row-item.result d c.loop-row-test.true
    c.row-item.is (c.cell_of.ensures ∙ ap (λ r. cell (row_of r) c.args.column) c.deref.ensures.value) in
    let whole : c.loop-row.bytes + length (texts (cells_from c.args.column c.loop-row.row-index c.args.rows.now))
    ≡ length (texts (column_of c.args.column (rows_of c.args.rows.now))) = c.loop-row.invariant.sum in
    let more : length (texts (cells_from c.args.column c.loop-row.row-index c.args.rows.now))
    ≡ text_length d + length (texts (cells_from c.args.column (c.loop-row.row-index + 1) c.args.rows.now)) =
    ap (λ cs. length (texts cs)) next ∙ length-append (text_in d) (texts (cells_from c.args.column
    (c.loop-row.row-index + 1) c.args.rows.now)) in
    let its : length c.text_of.result.now ≡ text_length d = ap length c.text_of.ensures in
    let here = c.in_ok-bytes.ensures in let below = here.0 in let is = here.1 in
    record { sum = omega arith; fits = omega arith }

pub returns : goal.returns
returns c =
    let none : length (texts (cells_from c.args.column c.loop-row.row-index c.args.rows.now)) ≡ 0 =
    ap (λ cs. length (texts cs)) (cells_end c.args.column c.loop-row.row-index c.args.rows.now c.loop-row-test.false) in
    let whole : c.loop-row.bytes + length (texts (cells_from c.args.column c.loop-row.row-index c.args.rows.now))
    ≡ length (texts (column_of c.args.column (rows_of c.args.rows.now))) = c.loop-row.invariant.sum in
    let below = c.loop-row.invariant.fits in most_fits c.loop-row.bytes _ (omega arith) below

pub returns-in_err-bytes : goal.returns-in_err-bytes
returns-in_err-bytes c =
    let d = datum_of_view c.cell_of.result in
    let next = cells_next c.args.column c.loop-row.row-index c.args.rows.now c.row-item.result d c.loop-row-test.true
    c.row-item.is (c.cell_of.ensures ∙ ap (λ r. cell (row_of r) c.args.column) c.deref.ensures.value) in
    let whole : c.loop-row.bytes + length (texts (cells_from c.args.column c.loop-row.row-index c.args.rows.now))
    ≡ length (texts (column_of c.args.column (rows_of c.args.rows.now))) = c.loop-row.invariant.sum in
    let more : length (texts (cells_from c.args.column c.loop-row.row-index c.args.rows.now))
    ≡ text_length d + length (texts (cells_from c.args.column (c.loop-row.row-index + 1) c.args.rows.now)) =
    ap (λ cs. length (texts cs)) next
    ∙ length-append (text_in d) (texts (cells_from c.args.column (c.loop-row.row-index + 1) c.args.rows.now)) in
    let its : length c.text_of.result.now ≡ text_length d = ap length c.text_of.ensures in
    c.from_residual.ensures ∙ most_exceeded _ (above_sum c.loop-row.bytes (length c.text_of.result.now) _
    c.in_err-bytes.ensures (omega arith))
