use Rattle.std.proofs.Common.{◌≡◌, map}
use Rattle.tql_catalog.specs.Definitions.{column_of}
use Rattle.tql_dml.specs.Cells.{columns_at, has_long_text}
use Rattle.tql_dml.proofs.FaultLaws.{long_from}
use Rattle.tql_dml.proofs.faults.has_long_text.Given as goal

-- invariant: the cells before this one pass
abbrev pub invariant-loop-place : goal.invariant-loop-place
invariant-loop-place l =
    long_from (map column_of l.columns) l.stored l.row l.place
    ≡ has_long_text (columns_at (map column_of l.columns) l.stored) l.row
