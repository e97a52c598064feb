use Rattle.tql_versions.proofs.Heaps.{IsFirstOf}
use Rattle.tql_versions.proofs.heap.first_child.Given as goal

-- the first of the children before this one
abbrev pub invariant-loop-child : goal.invariant-loop-child
invariant-loop-child l = IsFirstOf l.versions l.from l.child l.first
