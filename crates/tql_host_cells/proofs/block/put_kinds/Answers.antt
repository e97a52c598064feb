use Rattle.std.proofs.Common.{◌+◌, [], ◌∷◌, ◌++◌, sym, ap, ◌∙◌}
use Rattle.tql_value.specs.Views.{datum_of_view, row_of}
use Rattle.tql_host_cells.specs.Cells.{cell}
use Rattle.tql_host_cells.specs.Block.{kinds}
use Rattle.tql_host_cells.proofs.Columns.{cells_from, cells_next, cells_end}
use Rattle.tql_host_cells.proofs.Over.{goes_step, goes_fits, goes_last, goes_at}
use Rattle.tql_host_cells.proofs.block.put_kinds.Goals as goal

pub put_at-at-requires : goal.put_at-at-requires
put_at-at-requires c =
    let d = datum_of_view c.cell_of.result in
    let next = cells_next c.args.column c.loop-row.row-index c.args.rows.now c.row-item.result d c.loop-row-test.true
    c.row-item.is (c.cell_of.ensures ∙ ap (λ r. cell (row_of r) c.args.column) c.deref.ensures.value) in
    goes_fits c.args.room.now c.loop-row.room c.args.start c.loop-row.at (c.kind_of.result ∷ [])
    (kinds (cells_from c.args.column c.loop-row.row-index c.args.rows.now))
    (kinds (cells_from c.args.column (c.loop-row.row-index + 1) c.args.rows.now)) _ c.loop-row.invariant
    (ap kinds next ∙ ap (λ b. (b ∷ []) ++ kinds (cells_from c.args.column (c.loop-row.row-index + 1) c.args.rows.now))
    (sym c.kind_of.ensures))

pub loop-row-preserved : goal.loop-row-preserved
loop-row-preserved c =
    let d = datum_of_view c.cell_of.result in
    let next = cells_next c.args.column c.loop-row.row-index c.args.rows.now c.row-item.result d c.loop-row-test.true
    c.row-item.is (c.cell_of.ensures ∙ ap (λ r. cell (row_of r) c.args.column) c.deref.ensures.value) in
    goes_step c.args.room.now c.loop-row.room c.put_at-at.new.room c.args.start c.loop-row.at c.put_at-at.result
    (c.kind_of.result ∷ [])
    (kinds (cells_from c.args.column c.loop-row.row-index c.args.rows.now))
    (kinds (cells_from c.args.column (c.loop-row.row-index + 1) c.args.rows.now)) _ c.loop-row.invariant
    (ap kinds next ∙ ap (λ b. (b ∷ []) ++ kinds (cells_from c.args.column (c.loop-row.row-index + 1) c.args.rows.now))
    (sym c.kind_of.ensures)) c.put_at-at.ensures.put c.put_at-at.ensures.end

pub returns : goal.returns
returns c =
    let none = ap kinds (cells_end c.args.column c.loop-row.row-index c.args.rows.now c.loop-row-test.false) in
    record {
      end = goes_at c.args.room.now c.loop-row.room c.args.start c.loop-row.at _ _ c.loop-row.invariant none;
      put = goes_last c.args.room.now c.loop-row.room c.args.start c.loop-row.at _ _ c.loop-row.invariant none;
    }
