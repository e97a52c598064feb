use Rattle.std.proofs.Common.{List}
use Rattle.std.proofs.Common.{subst}
use Rattle.tql_store_rows.proofs.Heaping.{sunk_more}
use Rattle.tql_versions.specs.Heap.{IsSooner}
use Rattle.tql_versions.specs.Views.{versions_of}
use Rattle.tql_versions.specs.declared.kept.Kept.{Kept}
use Rattle.tql_store_rows.proofs.pruning.sink_first.Goals as goal

pub loop-child-preserved : goal.loop-child-preserved
loop-child-preserved c =
    let s = subst (λ (ks : List Kept). IsSooner (versions_of ks) c.loop-child.place c.in-Some.child)
    c.deref.ensures.value c.in-Some.ensures.some in
    let m = sunk_more (versions_of c.args.closed.now.items) c.loop-child.closed.items c.swap.new.self.items
    c.args.seats.now c.loop-child.seats c.swap-in-Some.new.self c.loop-child.place c.in-Some.child s
    c.swap.ensures.items c.swap.ensures.by_index c.swap-in-Some.ensures.swapped c.loop-child.invariant.heap
    c.loop-child.invariant.order in
    record { heap = m.0; order = m.1 }
