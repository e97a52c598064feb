use Rattle.std.proofs.Common.{◌-◌, length}
use Rattle.tql_standing.specs.Reordering.{AreReordered}
use Rattle.tql_versions.specs.Heap.{IsHeapBut}
use Rattle.tql_versions.specs.Views.{versions_of}
use Rattle.tql_store_rows.proofs.pruning.sink_first.Given as goal

-- only the version at the position may end after its children
abbrev pub invariant-loop-child : goal.invariant-loop-child
invariant-loop-child l = record {
  heap : IsHeapBut l.place (versions_of l.closed.items);
  order : AreReordered (versions_of l.fn.closed.items) (versions_of l.closed.items) l.fn.seats l.seats;
}

abbrev pub decreases-loop-child : goal.decreases-loop-child
decreases-loop-child l = length l.closed.items - l.place
