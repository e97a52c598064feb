use Rattle.std.proofs.Common.{◌∷◌, string_bytes, drop}
use Rattle.std.specs.List.{flat_map}
use Rattle.tql_result_laws.specs.Csv.{text_field}
use Rattle.tql_result.specs.Devices.{held}
use Rattle.tql_result.proofs.Pushing.{Sent}
use Rattle.tql_result_forms.proofs.csv.push_next_headings.Given as goal

abbrev pub invariant-loop-name : goal.invariant-loop-name
invariant-loop-name g l =
    Sent (flat_map (λ n. 44 ∷ text_field (string_bytes n)) l.names)
    (flat_map (λ n. 44 ∷ text_field (string_bytes n)) (drop l.name-index l.names))
    (held g.S.Sink.written g.S.Sink.kept l.initial.sink) (held g.S.Sink.written g.S.Sink.kept l.sink)
    (g.S.Sink.failures l.initial.sink)
    (g.S.Sink.failures l.sink)
