use Rattle.std.proofs.Common.{◌≡◌, ◌≤◌, ◌+◌, drop, length}
use Rattle.tql_versions.specs.Marks.{below}
use Rattle.tql_versions.proofs.kept.count_below.Given as goal

-- those counted so far, and those among the rest, are all
abbrev pub invariant-loop-place : goal.invariant-loop-place
invariant-loop-place l = record {
  all : l.count + length (below l.base (drop l.place-index l.places)) ≡ length (below l.base l.places);
  few : l.count ≤ l.place-index;
}
