use Rattle.std.proofs.Common.{◌∷◌, refl}
use Rattle.tql_result_laws.specs.Json.{json_value}
use Rattle.tql_value.specs.Views.{datum_of_value}
use Rattle.tql_result.proofs.Joining.{flat_map_next}
use Rattle.tql_result.proofs.Pushing.{step, stop}
use Rattle.tql_result_forms.proofs.json_rows.push_next_values.Goals as goal

pub returns-in_err-push_next_value : goal.returns-in_err-push_next_value
returns-in_err-push_next_value g c =
    stop _ _ c.from_residual.ensures.0 c.loop-cell.invariant
    (flat_map_next (λ v. 44 ∷ 32 ∷ json_value (datum_of_value v)) _ _ _ _ c.loop-cell-test.true c.cell-item.is
    refl)
    c.in_err-push_next_value.ensures

pub loop-cell-preserved : goal.loop-cell-preserved
loop-cell-preserved g c =
    step _ c.loop-cell.invariant
    (flat_map_next (λ v. 44 ∷ 32 ∷ json_value (datum_of_value v)) _ _ _ _ c.loop-cell-test.true c.cell-item.is
    refl)
    c.in_ok-push_next_value.ensures
