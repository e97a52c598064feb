use Rattle.std.proofs.Common.{◌≡◌, map}
use Rattle.tql_catalog.proofs.Rests.{rest}
use Rattle.tql_dml.specs.Cells.{stored_cells}
use Rattle.tql_new_rows.proofs.spread.new_rows.Given as goal

-- invariant: the rows so far with the rows to come changed are all rows changed
abbrev pub invariant-loop-row : goal.invariant-loop-row
invariant-loop-row l =
    rest (stored_cells l.definition l.columns) l.row-index l.row-items
    ≡ map (stored_cells l.definition l.columns) l.fn.rows.items
