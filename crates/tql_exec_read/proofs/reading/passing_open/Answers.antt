use Rattle.std.proofs.Common.{rules, ◌<◌, length, map}
use Rattle.tql_expr.specs.Generated.{generated}
use Rattle.tql_expr.specs.Meaning.{cond}
use Rattle.tql_exec_read.specs.Found.{completed}
use Rattle.tql_exec_read.proofs.Open.{one_more_passing}
use Rattle.tql_exec_read.proofs.reading.passing_open.Goals as goal

pub loop-id-preserved : goal.loop-id-preserved
loop-id-preserved c =
    let within : c.loop-id.id < length c.args.versions.now = search rules in
    one_more_passing (completed (generated c.args.system)) c.args.versions.now c.loop-id.id c.index-versions-id.result
    (map (cond c.args.terms.now) c.args.filter.now) c.loop-id.rows.items _ c.add_open_passing.new.rows.items within
    c.index-versions-id.is (rw c.in_ok-add_open_passing.was at c.add_open_passing.ensures) c.loop-id.invariant
