use Rattle.std.proofs.Common.{length}
use Rattle.tql_spec.specs.Bag.{SameBag}
use Rattle.tql_standing.specs.RowsStanding.{AreStanding, pasts_of}
use Rattle.tql_versions.specs.Changes.{left_by}
use Rattle.tql_versions.specs.Heap.{AreInHeap}
use Rattle.tql_versions.specs.Views.{versions_of}
use Rattle.tql_store_rows.proofs.pruning.prune_closed.Given as goal

-- the horizon keeps the same versions as at first
abbrev pub invariant-loop-closed : goal.invariant-loop-closed
invariant-loop-closed g l = record {
  heap : AreInHeap (versions_of l.closed.items);
  standing : AreStanding l.seats l.past (pasts_of (versions_of l.closed.items));
  bag : SameBag (left_by l.horizon (versions_of l.closed.items)) (left_by l.horizon (versions_of l.fn.closed.items));
}

abbrev pub decreases-loop-closed : goal.decreases-loop-closed
decreases-loop-closed g l = length l.closed.items
