use Rattle.std.proofs.Common.{◌∙◌, ℕ, Bool, ap, ◌++◌, ◌∷◌, []}
use Rattle.std.specs.Prelude.{not, filter, option_map}
use Rattle.tql_spec.specs.Creation.{has_number}
use Rattle.tql_spec.specs.Binding.{generated_columns}
use Rattle.tql_catalog.specs.Definitions.{system_of}
use Rattle.tql_catalog.proofs.Numbers.{one_more_number}
use Rattle.tql_catalog.proofs.assignable.assignable_numbers.Goals as goal

pub loop-number-preserved : goal.loop-number-preserved
loop-number-preserved c =
    let t : ℕ → Bool = λ i. not (has_number i (generated_columns (option_map system_of c.args.system))) in
    let n = c.loop-number.number in
    c.in_ok-add_assignable.ensures ∙ ap (λ ns. ns ++ filter t (n ∷ [])) c.loop-number.invariant ∙ one_more_number t n
