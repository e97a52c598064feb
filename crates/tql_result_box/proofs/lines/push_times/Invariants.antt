use Rattle.tql_result.specs.Devices.{held}
use Rattle.tql_result.proofs.Pushing.{Sent}
use Rattle.tql_result_box.specs.Box.{times}
use Rattle.tql_result_box.proofs.lines.push_times.Given as goal

abbrev pub decreases-each : goal.decreases-each
decreases-each g l = l.left

abbrev pub invariant-each : goal.invariant-each
invariant-each g l =
    Sent (times l.times l.piece) (times l.left l.piece)
    (held g.S.Sink.written g.S.Sink.kept l.initial.sink) (held g.S.Sink.written g.S.Sink.kept l.sink)
    (g.S.Sink.failures l.initial.sink)
    (g.S.Sink.failures l.sink)
