use Rattle.std.proofs.Common.{◌∷◌, string_bytes, sym, ap}
use Rattle.tql_result_laws.specs.Csv.{text_field}
use Rattle.tql_result.proofs.Joining.{flat_map_next}
use Rattle.tql_result.proofs.Pushing.{step, stop}
use Rattle.tql_result_forms.proofs.csv.push_next_headings.Goals as goal

pub returns-in_err-push_next_heading : goal.returns-in_err-push_next_heading
returns-in_err-push_next_heading g c =
    stop _ _ c.from_residual.ensures.0 c.loop-name.invariant
    (flat_map_next (λ n. 44 ∷ text_field (string_bytes n)) _ _ _ _ c.loop-name-test.true c.name-item.is
    (ap (λ t. 44 ∷ text_field t) (sym c.as_str.ensures.value)))
    c.in_err-push_next_heading.ensures

pub loop-name-preserved : goal.loop-name-preserved
loop-name-preserved g c =
    step _ c.loop-name.invariant
    (flat_map_next (λ n. 44 ∷ text_field (string_bytes n)) _ _ _ _ c.loop-name-test.true c.name-item.is
    (ap (λ t. 44 ∷ text_field t) (sym c.as_str.ensures.value)))
    c.in_ok-push_next_heading.ensures
