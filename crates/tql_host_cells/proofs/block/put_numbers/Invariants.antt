use Rattle.std.proofs.Common.{◌≡◌, ◌+◌, length}
use Rattle.tql_value.specs.Views.{rows_of}
use Rattle.tql_host_cells.specs.Block.{column_of, numbers, texts}
use Rattle.tql_host_cells.proofs.Columns.{cells_from}
use Rattle.tql_host_cells.proofs.Over.{Goes}
use Rattle.tql_host_cells.proofs.block.put_numbers.Given as goal

abbrev pub invariant-loop-row : goal.invariant-loop-row
invariant-loop-row l = record {
  goes : Goes l.initial.room l.room 0 l.at (numbers l.end (cells_from l.column l.row-index l.rows))
      (numbers 0 (column_of l.column (rows_of l.rows)));
  sum : l.end + length (texts (cells_from l.column l.row-index l.rows))
      ≡ length (texts (column_of l.column (rows_of l.rows)));
}
