use Rattle.std.proofs.Common.{◌≡◌, ◌+◌, length, ap, ◌∙◌, arith, zero-add, length-append}
use Rattle.tql_value.specs.Views.{datum_of_view, row_of, rows_of}
use Rattle.tql_host_cells.specs.Cells.{cell, text_in}
use Rattle.tql_host_cells.specs.Block.{column_of, numbers, text_length, texts}
use Rattle.tql_host_cells.proofs.Columns.{cells_from, cells_next, cells_end, numbers_next}
use Rattle.tql_host_cells.proofs.Over.{goes_step, goes_fits, goes_last, goes_at}
use Rattle.tql_host_cells.proofs.block.put_numbers.Goals as goal

pub overflow_add-end : goal.overflow_add-end
overflow_add-end c =
    let d = datum_of_view c.cell_of-cell.result in
    let next = cells_next c.args.column c.loop-row.row-index c.args.rows.now c.row-item.result d c.loop-row-test.true
    c.row-item.is (c.cell_of-cell.ensures ∙ ap (λ r. cell (row_of r) c.args.column) c.deref.ensures.value) in
    let whole : c.loop-row.end + length (texts (cells_from c.args.column c.loop-row.row-index c.args.rows.now))
    ≡ length (texts (column_of c.args.column (rows_of c.args.rows.now))) = c.loop-row.invariant.sum in
    let more : length (texts (cells_from c.args.column c.loop-row.row-index c.args.rows.now))
    ≡ text_length d + length (texts (cells_from c.args.column (c.loop-row.row-index + 1) c.args.rows.now)) =
    ap (λ cs. length (texts cs)) next ∙ length-append (text_in d) (texts (cells_from c.args.column
    (c.loop-row.row-index + 1) c.args.rows.now)) in
    let its : length c.text_of.result.now ≡ text_length d = ap length c.text_of.ensures in
    let below = c.requires.texts in omega arith

pub put_at-at-requires : goal.put_at-at-requires
put_at-at-requires c =
    let d = datum_of_view c.cell_of-cell.result in
    let next = cells_next c.args.column c.loop-row.row-index c.args.rows.now c.row-item.result d c.loop-row-test.true
    c.row-item.is (c.cell_of-cell.ensures ∙ ap (λ r. cell (row_of r) c.args.column) c.deref.ensures.value) in
    goes_fits c.args.room.now c.loop-row.room 0 c.loop-row.at c.number_of.result
    (numbers c.loop-row.end (cells_from c.args.column c.loop-row.row-index c.args.rows.now))
    (numbers (c.loop-row.end + length c.text_of.result.now)
    (cells_from c.args.column (c.loop-row.row-index + 1) c.args.rows.now)) _ c.loop-row.invariant.goes
    (numbers_next c.loop-row.end (length c.text_of.result.now) _ _ d c.number_of.result next (ap length
    c.text_of.ensures)
    c.number_of.ensures)

pub loop-row-preserved : goal.loop-row-preserved
loop-row-preserved c =
    let d = datum_of_view c.cell_of-cell.result in
    let next = cells_next c.args.column c.loop-row.row-index c.args.rows.now c.row-item.result d c.loop-row-test.true
    c.row-item.is (c.cell_of-cell.ensures ∙ ap (λ r. cell (row_of r) c.args.column) c.deref.ensures.value) in
    let whole : c.loop-row.end + length (texts (cells_from c.args.column c.loop-row.row-index c.args.rows.now))
    ≡ length (texts (column_of c.args.column (rows_of c.args.rows.now))) = c.loop-row.invariant.sum in
    let more : length (texts (cells_from c.args.column c.loop-row.row-index c.args.rows.now))
    ≡ text_length d + length (texts (cells_from c.args.column (c.loop-row.row-index + 1) c.args.rows.now)) =
    ap (λ cs. length (texts cs)) next ∙ length-append (text_in d) (texts (cells_from c.args.column
    (c.loop-row.row-index + 1) c.args.rows.now)) in
    let its : length c.text_of.result.now ≡ text_length d = ap length c.text_of.ensures in
    record {
      goes =
          goes_step c.args.room.now c.loop-row.room c.put_at-at.new.room 0 c.loop-row.at c.put_at-at.result
          c.number_of.result
          (numbers c.loop-row.end (cells_from c.args.column c.loop-row.row-index c.args.rows.now))
          (numbers (c.loop-row.end + length c.text_of.result.now)
          (cells_from c.args.column (c.loop-row.row-index + 1) c.args.rows.now)) _ c.loop-row.invariant.goes
          (numbers_next c.loop-row.end (length c.text_of.result.now) _ _ d c.number_of.result next (ap length
          c.text_of.ensures)
          c.number_of.ensures) c.put_at-at.ensures.put c.put_at-at.ensures.end;
      sum = omega arith;
    }

pub returns : goal.returns
returns c =
    let none = ap (numbers c.loop-row.end) (cells_end c.args.column c.loop-row.row-index c.args.rows.now
    c.loop-row-test.false) in
    record {
      end = goes_at c.args.room.now c.loop-row.room 0 c.loop-row.at _ _ c.loop-row.invariant.goes none
          ∙ zero-add (length (numbers 0 (column_of c.args.column (rows_of c.args.rows.now))));
      put = goes_last c.args.room.now c.loop-row.room 0 c.loop-row.at _ _ c.loop-row.invariant.goes none;
    }
