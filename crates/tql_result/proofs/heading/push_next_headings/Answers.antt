use Rattle.std.proofs.Common.{◌∷◌, sym, ap, string_bytes}
use Rattle.tql_spec.specs.Text.{heading_text}
use Rattle.tql_result.proofs.Joining.{flat_map_next}
use Rattle.tql_result.proofs.Pushing.{step, stop}
use Rattle.tql_result.proofs.heading.push_next_headings.Goals as goal

pub returns-in_err-push_next_heading : goal.returns-in_err-push_next_heading
returns-in_err-push_next_heading g c =
    stop _ _ c.from_residual.ensures.0 c.loop-name.invariant
    (flat_map_next (λ n. 124 ∷ heading_text (string_bytes n)) _ _ _ _ c.loop-name-test.true c.name-item.is
    (ap (λ t. 124 ∷ heading_text t) (sym c.as_str.ensures.value)))
    c.in_err-push_next_heading.ensures

pub loop-name-preserved : goal.loop-name-preserved
loop-name-preserved g c =
    step _ c.loop-name.invariant
    (flat_map_next (λ n. 124 ∷ heading_text (string_bytes n)) _ _ _ _ c.loop-name-test.true c.name-item.is
    (ap (λ t. 124 ∷ heading_text t) (sym c.as_str.ensures.value)))
    c.in_ok-push_next_heading.ensures
