use Rattle.std.proofs.Common.{◌≡◌, drop}
use Rattle.std.specs.List.{list_any}
use Rattle.tql_spec.specs.Binding.{is_generated}
use Rattle.tql_bind_change.proofs.columns.has_generated.Given as goal

abbrev pub invariant-loop-number : goal.invariant-loop-number
invariant-loop-number l =
    list_any (is_generated l.definition) (drop l.number-index l.numbers) ≡ list_any (is_generated l.definition)
    l.numbers
