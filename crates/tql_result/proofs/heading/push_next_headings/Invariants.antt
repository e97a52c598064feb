use Rattle.std.proofs.Common.{◌∷◌, drop, string_bytes}
use Rattle.std.specs.List.{flat_map}
use Rattle.tql_spec.specs.Text.{heading_text}
use Rattle.tql_result.specs.Devices.{held}
use Rattle.tql_result.proofs.Pushing.{Sent}
use Rattle.tql_result.proofs.heading.push_next_headings.Given as goal

abbrev pub invariant-loop-name : goal.invariant-loop-name
invariant-loop-name g l =
    Sent (flat_map (λ n. 124 ∷ heading_text (string_bytes n)) l.names)
    (flat_map (λ n. 124 ∷ heading_text (string_bytes n)) (drop l.name-index l.names))
    (held g.S.Sink.written g.S.Sink.kept l.initial.sink) (held g.S.Sink.written g.S.Sink.kept l.sink)
    (g.S.Sink.failures l.initial.sink)
    (g.S.Sink.failures l.sink)
