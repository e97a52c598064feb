use Rattle.std.proofs.Common.{rules, ◌<◌, length, map}
use Rattle.tql_expr.specs.Generated.{generated}
use Rattle.tql_expr.specs.Meaning.{cond}
use Rattle.tql_exec_read.specs.Found.{completed}
use Rattle.tql_exec_read.proofs.Open.{one_more_read}
use Rattle.tql_exec_read.proofs.reading.passing_rows.Goals as goal

pub loop-version-preserved : goal.loop-version-preserved
loop-version-preserved c =
    let within : c.loop-version.version-index < length c.args.versions.now = search rules in
    one_more_read (completed (generated c.args.system)) c.args.versions.now c.loop-version.version-index
    c.version-item.result (map (cond c.args.terms.now) c.args.filter.now) c.loop-version.rows.items
    c.add_passing.new.rows.items _ within c.version-item.is (rw c.in_ok-add_passing.was at c.add_passing.ensures)
    c.loop-version.invariant
