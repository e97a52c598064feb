use Rattle.std.proofs.Common.{◌∷◌, drop}
use Rattle.std.specs.List.{flat_map}
use Rattle.tql_spec.specs.Text.{cell_text}
use Rattle.tql_value.specs.Views.{datum_of_value}
use Rattle.tql_result.specs.Devices.{held}
use Rattle.tql_result.proofs.Pushing.{Sent}
use Rattle.tql_result.proofs.table.push_next_cells.Given as goal

abbrev pub invariant-loop-cell : goal.invariant-loop-cell
invariant-loop-cell g l =
    Sent (flat_map (λ v. 124 ∷ cell_text (datum_of_value v)) l.cells)
    (flat_map (λ v. 124 ∷ cell_text (datum_of_value v)) (drop l.cell-index l.cells))
    (held g.S.Sink.written g.S.Sink.kept l.initial.sink)
    (held g.S.Sink.written g.S.Sink.kept l.sink) (g.S.Sink.failures l.initial.sink) (g.S.Sink.failures l.sink)
