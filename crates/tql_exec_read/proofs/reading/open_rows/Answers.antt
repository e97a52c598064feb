use Rattle.std.proofs.Common.{rules, ◌<◌, length}
use Rattle.tql_expr.specs.Generated.{generated}
use Rattle.tql_exec_read.specs.Found.{completed}
use Rattle.tql_exec_read.proofs.Open.{one_more_open}
use Rattle.tql_exec_read.proofs.reading.open_rows.Goals as goal

pub loop-id-preserved : goal.loop-id-preserved
loop-id-preserved c =
    let within : c.loop-id.id < length c.args.versions.now = search rules in
    one_more_open (completed (generated c.args.system)) c.args.versions.now c.loop-id.id c.index-versions-id.result
    c.loop-id.rows.items c.add_open.new.rows.items _ within c.index-versions-id.is c.in_ok-add_open.ensures
    c.loop-id.invariant
