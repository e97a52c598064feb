use Rattle.std.proofs.Common.{◌≡◌, ◌+◌, length, ◌<◌, ◌^◌}
use Rattle.tql_value.specs.Views.{rows_of}
use Rattle.tql_host_cells.specs.Block.{column_of, texts}
use Rattle.tql_host_cells.proofs.Columns.{cells_from}
use Rattle.tql_host_cells.proofs.block.text_bytes.Given as goal

abbrev pub invariant-loop-row : goal.invariant-loop-row
invariant-loop-row l = record {
  sum : l.bytes + length (texts (cells_from l.column l.row-index l.rows))
      ≡ length (texts (column_of l.column (rows_of l.rows)));
  fits : l.bytes < 2 ^ 64;
}
