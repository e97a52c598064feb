use Rattle.std.proofs.Common.{◌∷◌, sym, ap}
use Rattle.tql_result_laws.specs.Json.{row_array}
use Rattle.tql_value.specs.Views.{row_of}
use Rattle.tql_result.proofs.Joining.{flat_map_next}
use Rattle.tql_result.proofs.Pushing.{step, stop}
use Rattle.tql_result_forms.proofs.json_rows.push_next_rows.Goals as goal

pub returns-in_err-push_next_row : goal.returns-in_err-push_next_row
returns-in_err-push_next_row g c =
    stop _ _ c.from_residual.ensures.0 c.loop-row.invariant
    (flat_map_next (λ r. 44 ∷ 32 ∷ row_array (row_of r.items)) _ _ _ _ c.loop-row-test.true c.row-item.is
    (ap (λ l. 44 ∷ 32 ∷ row_array (row_of l)) (sym c.as_slice.ensures.value)))
    c.in_err-push_next_row.ensures

pub loop-row-preserved : goal.loop-row-preserved
loop-row-preserved g c =
    step _ c.loop-row.invariant
    (flat_map_next (λ r. 44 ∷ 32 ∷ row_array (row_of r.items)) _ _ _ _ c.loop-row-test.true c.row-item.is
    (ap (λ l. 44 ∷ 32 ∷ row_array (row_of l)) (sym c.as_slice.ensures.value)))
    c.in_ok-push_next_row.ensures
