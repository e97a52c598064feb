use Rattle.tql_value.specs.Views.{rows_of}
use Rattle.tql_host_cells.specs.Block.{column_of, texts}
use Rattle.tql_host_cells.proofs.Columns.{cells_from}
use Rattle.tql_host_cells.proofs.Over.{Goes}
use Rattle.tql_host_cells.proofs.block.put_texts.Given as goal

abbrev pub invariant-loop-row : goal.invariant-loop-row
invariant-loop-row l = Goes l.initial.room l.room l.start l.at (texts (cells_from l.column l.row-index l.rows))
    (texts (column_of l.column (rows_of l.rows)))
