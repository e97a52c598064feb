use Rattle.std.proofs.Common.{map, take}
use Rattle.tql_value.specs.Views.{datum_of_view}
use Rattle.tql_value.specs.declared.when.When.TheVariants.{Now}
use Rattle.tql_store.specs.Views.{IsFound}
use Rattle.tql_plan_access.specs.Alternatives.{has_any}
use Rattle.tql_exec_read.proofs.changing.current_with_each.Given as goal

-- the versions found so far are those with one of the values so far
abbrev pub invariant-loop-value : goal.invariant-loop-value
invariant-loop-value g l =
    IsFound l.store l.table Now (has_any l.column (map datum_of_view (take l.value-index l.values))) l.found.items
