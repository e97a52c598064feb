use Rattle.std.proofs.Common.{arith}
use Rattle.std.proofs.lemmas.Int.{ints}
use Rattle.tql_versions.proofs.Heaps.{childless, no_sooner}
use Rattle.tql_versions.proofs.heap.sooner_child.Goals as goal

pub returns-in_default-clause-none : goal.returns-in_default-clause-none
returns-in_default-clause-none c = childless c.args.versions.now c.args.place (c.in_default.ensures.none)

pub returns-else-versions-child-clause-none : goal.returns-else-versions-child-clause-none
returns-else-versions-child-clause-none c =
    no_sooner c.args.versions.now c.args.place c.in-Some.child c.index-versions-child.result
    c.index-versions-place.result c.in-Some.ensures.some c.index-versions-child.is c.index-versions-place.is
    (grind (arith, ints))
