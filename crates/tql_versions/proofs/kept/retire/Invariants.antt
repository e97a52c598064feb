use Rattle.std.proofs.Common.{◌≡◌, ◌≤◌, ◌+◌, ◌++◌, drop, length}
use Rattle.std.specs.Prelude.{vec_len, vec_capacity}
use Rattle.tql_versions.specs.Changes.{emptied, taken}
use Rattle.tql_versions.specs.Views.{versions_of}
use Rattle.tql_versions.proofs.kept.retire.Given as goal

-- the versions taken so far, and those at the remaining positions, are all that are taken
abbrev pub invariant-loop-place : goal.invariant-loop-place
invariant-loop-place l = record {
  left : emptied l.moment (drop l.place-index l.places) (versions_of l.versions) ≡ emptied l.moment l.places
      (versions_of l.initial.versions);
  taken : versions_of l.closed.items ++ taken l.moment (drop l.place-index l.places) (versions_of l.versions) ≡
      versions_of l.initial.closed.items ++ taken l.moment l.places (versions_of l.initial.versions);
  room : vec_len l.closed + length (drop l.place-index l.places) ≤ vec_capacity l.closed;
}
