use Rattle.std.proofs.Common.{◌≡◌}
use Rattle.std.specs.Prelude.{not, filter, option_map}
use Rattle.std.specs.List.{range_with_len}
use Rattle.tql_spec.specs.Creation.{has_number}
use Rattle.tql_spec.specs.Binding.{generated_columns}
use Rattle.tql_catalog.specs.Definitions.{system_of}
use Rattle.tql_catalog.proofs.assignable.assignable_numbers.Given as goal

abbrev pub invariant-loop-number : goal.invariant-loop-number
invariant-loop-number l =
    l.numbers.items ≡ filter (λ i. not (has_number i (generated_columns (option_map system_of l.system))))
    (range_with_len 0 l.number)
