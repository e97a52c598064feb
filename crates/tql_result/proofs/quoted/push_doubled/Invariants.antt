use Rattle.std.proofs.Common.{length}
use Rattle.tql_spec.specs.Text.{doubled}
use Rattle.tql_result.specs.Devices.{held}
use Rattle.tql_result.proofs.Pushing.{Sent}
use Rattle.tql_result.proofs.quoted.push_doubled.Given as goal

abbrev pub decreases-loop-front : goal.decreases-loop-front
decreases-loop-front g l = length l.rest

abbrev pub invariant-loop-front : goal.invariant-loop-front
invariant-loop-front g l =
    Sent (doubled l.quote l.text) (doubled l.quote l.rest) (held g.S.Sink.written g.S.Sink.kept l.initial.sink)
    (held g.S.Sink.written g.S.Sink.kept l.sink)
    (g.S.Sink.failures l.initial.sink) (g.S.Sink.failures l.sink)
