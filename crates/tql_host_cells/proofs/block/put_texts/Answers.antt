use Rattle.std.proofs.Common.{◌+◌, ◌++◌, sym, ap, ◌∙◌}
use Rattle.tql_value.specs.Views.{datum_of_view, row_of}
use Rattle.tql_host_cells.specs.Cells.{cell}
use Rattle.tql_host_cells.specs.Block.{texts}
use Rattle.tql_host_cells.proofs.Columns.{cells_from, cells_next, cells_end}
use Rattle.tql_host_cells.proofs.Over.{goes_step, goes_fits, goes_last}
use Rattle.tql_host_cells.proofs.block.put_texts.Goals as goal

pub put_at-at-requires : goal.put_at-at-requires
put_at-at-requires c =
    let d = datum_of_view c.cell_of.result in
    let next = cells_next c.args.column c.loop-row.row-index c.args.rows.now c.row-item.result d c.loop-row-test.true
    c.row-item.is (c.cell_of.ensures ∙ ap (λ r. cell (row_of r) c.args.column) c.deref.ensures.value) in
    goes_fits c.args.room.now c.loop-row.room c.args.start c.loop-row.at c.text_of.result.now
    (texts (cells_from c.args.column c.loop-row.row-index c.args.rows.now))
    (texts (cells_from c.args.column (c.loop-row.row-index + 1) c.args.rows.now)) _ c.loop-row.invariant
    (ap texts next ∙ ap (λ b. b ++ texts (cells_from c.args.column (c.loop-row.row-index + 1) c.args.rows.now)) (sym
    c.text_of.ensures))

pub loop-row-preserved : goal.loop-row-preserved
loop-row-preserved c =
    let d = datum_of_view c.cell_of.result in
    let next = cells_next c.args.column c.loop-row.row-index c.args.rows.now c.row-item.result d c.loop-row-test.true
    c.row-item.is (c.cell_of.ensures ∙ ap (λ r. cell (row_of r) c.args.column) c.deref.ensures.value) in
    goes_step c.args.room.now c.loop-row.room c.put_at-at.new.room c.args.start c.loop-row.at c.put_at-at.result
    c.text_of.result.now
    (texts (cells_from c.args.column c.loop-row.row-index c.args.rows.now))
    (texts (cells_from c.args.column (c.loop-row.row-index + 1) c.args.rows.now)) _ c.loop-row.invariant
    (ap texts next ∙ ap (λ b. b ++ texts (cells_from c.args.column (c.loop-row.row-index + 1) c.args.rows.now)) (sym
    c.text_of.ensures)) c.put_at-at.ensures.put c.put_at-at.ensures.end

pub returns : goal.returns
returns c =
    let none = ap texts (cells_end c.args.column c.loop-row.row-index c.args.rows.now c.loop-row-test.false) in
    goes_last c.args.room.now c.loop-row.room c.args.start c.loop-row.at _ _ c.loop-row.invariant none
