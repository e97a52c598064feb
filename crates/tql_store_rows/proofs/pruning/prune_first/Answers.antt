use Rattle.std.proofs.Common.{arith}
use Rattle.tql_standing.proofs.Steps.{swapped_out}
use Rattle.tql_store_rows.proofs.Heaping.{dropped_ended, dropped_first, first_goes, reordered_ended, reordered_left}
use Rattle.tql_store_rows.proofs.Heaping.{reordered_size}
use Rattle.tql_store_rows.proofs.Leaving.{past_dropped}
use Rattle.tql_versions.specs.Changes.{stays}
use Rattle.tql_versions.specs.Views.{versions_of}
use Rattle.tql_store_rows.proofs.pruning.prune_first.Goals as goal

pub sink_first-requires : goal.sink_first-requires
sink_first-requires g c =
    dropped_first c.args.closed.now.items c.drop_version.new.versions.items c.drop_version.result c.requires.some
    c.drop_version.ensures.items c.requires.heap.heap

pub returns-clause-shorter : goal.returns-clause-shorter
returns-clause-shorter g c =
    let s = c.drop_version.ensures.shorter in
    let n = reordered_size c.drop_version.new.versions.items c.sink_first.new.closed.items c.drop_version.new.seats
    c.sink_first.new.seats c.sink_first.ensures.order in
    omega (arith, s, n)

pub returns-clause-heap : goal.returns-clause-heap
returns-clause-heap g c = record {
  heap = c.sink_first.ensures.heap;
  ended = reordered_ended (versions_of c.drop_version.new.versions.items) (versions_of c.sink_first.new.closed.items)
      c.drop_version.new.seats c.sink_first.new.seats c.sink_first.ensures.order
      (dropped_ended c.args.closed.now.items c.drop_version.new.versions.items c.drop_version.result c.requires.some
      c.drop_version.ensures.items c.requires.heap.ended);
}

pub returns-clause-standing : goal.returns-clause-standing
returns-clause-standing g c = c.sink_first.ensures.order.standing c.leave_one.new.past
    (past_dropped c.args.seats.now c.drop_version.new.seats c.args.past.now c.leave_one.new.past
    c.args.closed.now.items c.drop_version.new.versions.items 0 _ c.drop_version.result c.requires.some
    c.drop_version.ensures.shorter c.drop_version.ensures.swapped c.drop_version.ensures.items
    c.leave_one.ensures.turned c.leave_one.ensures.gone c.leave_one.ensures.same c.requires.standing)

pub returns-clause-versions : goal.returns-clause-versions
returns-clause-versions g c = λ h gone.
    reordered_left h (versions_of c.args.closed.now.items) (versions_of c.drop_version.new.versions.items)
    (versions_of c.sink_first.new.closed.items) c.drop_version.new.seats c.sink_first.new.seats
    c.sink_first.ensures.order
    (swapped_out (stays h) c.args.closed.now.items c.drop_version.new.versions.items 0 c.drop_version.result
    c.requires.some c.drop_version.ensures.value
    (first_goes h c.args.closed.now.items c.drop_version.result c.requires.some c.drop_version.ensures.value gone)
    c.drop_version.ensures.items)
