use Rattle.std.proofs.Common.{◌≡◌, ◌++◌, true, drop, map}
use Rattle.tql_spec.specs.Bag.{SameBag}
use Rattle.tql_value.specs.Views.{datum_of_view}
use Rattle.tql_versions.specs.Readings.{version_shown as version_of}
use Rattle.tql_store.specs.Represents.{Copies, Working, Represents}
use Rattle.tql_plan.specs.Nodes.{source_of}
use Rattle.tql_plan_access.specs.Choices.{are_distinct}
use Rattle.tql_exec_read.specs.Found.{versions_in}
use Rattle.tql_exec_read.proofs.OneOf.{with_any}
use Rattle.tql_exec_read.proofs.alternatives.versions_with_each.Given as goal

-- the versions found so far, and those with one of the values that are left, are all that are wanted
abbrev pub invariant-loop-value : goal.invariant-loop-value
invariant-loop-value g l = record {
  distinct : are_distinct (map datum_of_view (drop l.value-index l.values)) ≡ true;
  found : (copies : Copies) (working : Working) → Represents l.snapshot copies working
      → SameBag (map version_of l.found.items
      ++ with_any l.column (map datum_of_view (drop l.value-index l.values))
      (versions_in l.snapshot copies working (source_of l.source)))
      (with_any l.column (map datum_of_view l.values)
      (versions_in l.snapshot copies working (source_of l.source)));
}
