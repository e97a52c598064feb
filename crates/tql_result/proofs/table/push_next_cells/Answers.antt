use Rattle.std.proofs.Common.{◌∷◌, refl}
use Rattle.tql_spec.specs.Text.{cell_text}
use Rattle.tql_value.specs.Views.{datum_of_value}
use Rattle.tql_result.proofs.Joining.{flat_map_next}
use Rattle.tql_result.proofs.Pushing.{step, stop}
use Rattle.tql_result.proofs.table.push_next_cells.Goals as goal

pub returns-in_err-push_next_cell : goal.returns-in_err-push_next_cell
returns-in_err-push_next_cell g c =
    stop _ _ c.from_residual.ensures.0 c.loop-cell.invariant
    (flat_map_next (λ v. 124 ∷ cell_text (datum_of_value v)) _ _ _ _ c.loop-cell-test.true c.cell-item.is refl)
    c.in_err-push_next_cell.ensures

pub loop-cell-preserved : goal.loop-cell-preserved
loop-cell-preserved g c =
    step _ c.loop-cell.invariant
    (flat_map_next (λ v. 124 ∷ cell_text (datum_of_value v)) _ _ _ _ c.loop-cell-test.true c.cell-item.is refl)
    c.in_ok-push_next_cell.ensures
