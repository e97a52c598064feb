use Rattle.std.proofs.Common.{◌∷◌, drop}
use Rattle.std.specs.List.{flat_map}
use Rattle.tql_result_laws.specs.Json.{json_value}
use Rattle.tql_value.specs.Views.{datum_of_value}
use Rattle.tql_result.specs.Devices.{held}
use Rattle.tql_result.proofs.Pushing.{Sent}
use Rattle.tql_result_forms.proofs.json_rows.push_next_values.Given as goal

abbrev pub invariant-loop-cell : goal.invariant-loop-cell
invariant-loop-cell g l =
    Sent (flat_map (λ v. 44 ∷ 32 ∷ json_value (datum_of_value v)) l.cells)
    (flat_map (λ v. 44 ∷ 32 ∷ json_value (datum_of_value v)) (drop l.cell-index l.cells))
    (held g.S.Sink.written g.S.Sink.kept l.initial.sink) (held g.S.Sink.written g.S.Sink.kept l.sink)
    (g.S.Sink.failures l.initial.sink)
    (g.S.Sink.failures l.sink)
