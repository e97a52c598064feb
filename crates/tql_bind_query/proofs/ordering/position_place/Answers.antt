use Rattle.std.proofs.Common.{ℕ, sym, ap, ◌∙◌, subst}
use Rattle.std.specs.Prelude.{◌-◌}
use Rattle.tql_spec.specs.Binding.{has_position}
use Rattle.tql_spec.specs.Calendar.{number_of}
use Rattle.tql_spec.specs.Creation.{or_first}
use Rattle.tql_spec.specs.Names.{Checked}
use Rattle.tql_bind_expr.specs.Gathered.{Gathers}
use Rattle.tql_bind_query.specs.Ordered.{place_at}
use Rattle.tql_bind_query.proofs.OneOf.{placed_is}
use Rattle.tql_bind_query.proofs.ordering.position_place.Goals as goal

pub returns : goal.returns
returns c =
    let n = number_of c.args.digits.now in
    let width = c.args.width in
    subst (λ (d : Checked ℕ). Gathers d c.args.faults.now c.or_first.new.self c.or_first.result)
    (ap or_first (c.place_at.ensures ∙ ap (λ ds. place_at width (number_of ds)) c.as_bytes.ensures.value)
    ∙ sym (placed_is (has_position n width) (n - 1))) c.or_first.ensures
