use Rattle.std.proofs.Common.{◌≡◌, ◌++◌, drop, map}
use Rattle.tql_expr.specs.Generated.{generated}
use Rattle.tql_versions.specs.Readings.{open_ones}
use Rattle.tql_versions.specs.Views.{versions_of}
use Rattle.tql_exec_read.specs.Found.{completed}
use Rattle.tql_exec_read.proofs.reading.open_rows.Given as goal

-- invariant: the rows so far, and those of the versions left, are all rows
abbrev pub invariant-loop-id : goal.invariant-loop-id
invariant-loop-id l =
    l.rows.items ++ map (completed (generated l.system)) (open_ones (versions_of (drop l.id l.versions)))
    ≡ map (completed (generated l.system)) (open_ones (versions_of l.versions))
