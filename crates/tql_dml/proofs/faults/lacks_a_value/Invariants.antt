use Rattle.std.proofs.Common.{◌≡◌, map}
use Rattle.tql_catalog.specs.Definitions.{column_of}
use Rattle.tql_dml.specs.Cells.{columns_at, lacks_a_value}
use Rattle.tql_dml.proofs.FaultLaws.{lacking_from}
use Rattle.tql_dml.proofs.faults.lacks_a_value.Given as goal

-- invariant: the cells before this one pass
abbrev pub invariant-loop-place : goal.invariant-loop-place
invariant-loop-place l =
    lacking_from (map column_of l.columns) l.stored l.row l.place
    ≡ lacks_a_value (columns_at (map column_of l.columns) l.stored) l.row
