use Rattle.std.proofs.Common.{◌≡◌, ◌++◌, drop, map}
use Rattle.tql_spec.specs.Binding.{kinds_for}
use Rattle.tql_value.specs.Views.{plain_kind}
use Rattle.tql_bind_change.proofs.columns.kinds_for.Given as goal

abbrev pub invariant-loop-number : goal.invariant-loop-number
invariant-loop-number l =
    map plain_kind l.kinds.items ++ kinds_for l.definition (drop l.number-index l.numbers) ≡ kinds_for l.definition
    l.numbers
