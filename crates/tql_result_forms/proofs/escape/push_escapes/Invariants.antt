use Rattle.std.proofs.Common.{length}
use Rattle.std.specs.List.{flat_map}
use Rattle.tql_result_laws.specs.Json.{escaped}
use Rattle.tql_result.specs.Devices.{held}
use Rattle.tql_result.proofs.Pushing.{Sent}
use Rattle.tql_result_forms.proofs.escape.push_escapes.Given as goal

abbrev pub decreases-loop-front : goal.decreases-loop-front
decreases-loop-front g l = length l.rest

abbrev pub invariant-loop-front : goal.invariant-loop-front
invariant-loop-front g l =
    Sent (flat_map escaped l.text) (flat_map escaped l.rest) (held g.S.Sink.written g.S.Sink.kept l.initial.sink)
    (held g.S.Sink.written g.S.Sink.kept l.sink) (g.S.Sink.failures l.initial.sink) (g.S.Sink.failures l.sink)
