use Rattle.std.proofs.Common.{◌≡◌, drop, map}
use Rattle.tql_spec.specs.Query.{keep}
use Rattle.tql_expr.specs.Evaluated.{behind}
use Rattle.tql_expr.specs.Generated.{generated}
use Rattle.tql_expr.specs.Meaning.{cond}
use Rattle.tql_versions.specs.Readings.{version_shown as version_of}
use Rattle.tql_exec_read.specs.Found.{completed}
use Rattle.tql_exec_read.proofs.reading.passing_rows.Given as goal

-- invariant: the rows so far, followed by the passing rows of the remaining versions, are all passing rows
abbrev pub invariant-loop-version : goal.invariant-loop-version
invariant-loop-version l =
    let conds = map (cond l.terms) l.filter in
    let shown = completed (generated l.system) in
    behind l.rows.items (keep conds (map shown (map version_of (drop l.version-index l.versions))))
    ≡ keep conds (map shown (map version_of l.versions))
