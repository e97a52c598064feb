use Rattle.std.proofs.Common.{◌≡◌, ◌++◌, drop, map}
use Rattle.tql_expr.specs.Generated.{generated}
use Rattle.tql_versions.specs.Readings.{version_shown as version_of}
use Rattle.tql_exec_read.specs.Found.{completed}
use Rattle.tql_exec_read.proofs.reading.full_rows.Given as goal

-- invariant: the rows so far, and those of the versions left, are all rows
abbrev pub invariant-loop-version : goal.invariant-loop-version
invariant-loop-version l =
    l.rows.items ++ map (completed (generated l.system)) (map version_of (drop l.version-index l.versions))
    ≡ map (completed (generated l.system)) (map version_of l.versions)
