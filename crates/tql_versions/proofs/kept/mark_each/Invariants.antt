use Rattle.std.proofs.Common.{◌≡◌, ◌≤◌, ◌+◌, ◌++◌, drop, length}
use Rattle.std.specs.Prelude.{vec_len, vec_capacity}
use Rattle.tql_versions.specs.Marks.{below, from}
use Rattle.tql_versions.proofs.kept.mark_each.Given as goal

abbrev pub invariant-loop-place : goal.invariant-loop-place
invariant-loop-place l = record {
  ended : l.ended.items ++ below l.base (drop l.place-index l.places) ≡ l.initial.ended.items ++ below l.base l.places;
  dead : l.dead.items ++ from l.base (drop l.place-index l.places) ≡ l.initial.dead.items ++ from l.base l.places;
  ended_room : vec_len l.ended + length (below l.base (drop l.place-index l.places)) ≤ vec_capacity l.ended;
  dead_room : vec_len l.dead + length (from l.base (drop l.place-index l.places)) ≤ vec_capacity l.dead;
}
