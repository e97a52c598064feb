use Rattle.std.proofs.Common.{◌≡◌, take}
use Rattle.tql_index.specs.Line.{place_of}
use Rattle.tql_index.specs.Tree.{greatest_end}
use Rattle.tql_index.proofs.run.last_end.Given as goal

abbrev pub invariant-loop-place : goal.invariant-loop-place
invariant-loop-place g l = place_of l.end ≡ greatest_end (take l.place l.slots)
