use Rattle.std.proofs.Common.{length}
use Rattle.tql_result.specs.Devices.{held}
use Rattle.tql_result.proofs.Pushing.{Sent}
use Rattle.tql_result.proofs.pieces.push_all.Given as goal

abbrev pub decreases-loop-rest : goal.decreases-loop-rest
decreases-loop-rest g l = length l.rest

abbrev pub invariant-loop-rest : goal.invariant-loop-rest
invariant-loop-rest g l =
    Sent l.bytes l.rest (held g.S.Sink.written g.S.Sink.kept l.initial.sink)
    (held g.S.Sink.written g.S.Sink.kept l.sink) (g.S.Sink.failures l.initial.sink)
    (g.S.Sink.failures l.sink)
