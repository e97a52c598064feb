use Rattle.std.proofs.Common.{◌≡◌, ◌+◌, ◌*◌, length, arith}
use Rattle.tql_value.specs.Views.{rows_of}
use Rattle.tql_host_cells.specs.Block.{block, column_of, texts}
use Rattle.tql_host_cells.proofs.Columns.{length_of_block, length_of_column}
use Rattle.tql_host_cells.proofs.Most.{most_known, most_sum}
use Rattle.tql_host_cells.proofs.block.block_bytes.Goals as goal

pub returns : goal.returns
returns c =
    let cells = column_of c.args.column (rows_of c.args.rows.now) in
    let whole : length (block cells) ≡ 9 * length cells + length (texts cells) = length_of_block cells in
    let rows : length cells ≡ length c.args.rows.now = length_of_column c.args.column c.args.rows.now in
    let x : c.in_ok-text_bytes.field-0 ≡ length (texts cells) = most_known _ _ c.in_ok-text_bytes.ensures in
    let front = c.in_ok-front.ensures in
    most_sum c.checked_add.result _ _ c.checked_add.ensures (omega arith)
