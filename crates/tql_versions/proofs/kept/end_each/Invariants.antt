use Rattle.std.proofs.Common.{◌≡◌, drop}
use Rattle.tql_versions.specs.Changes.{closing}
use Rattle.tql_versions.specs.Views.{versions_of}
use Rattle.tql_versions.proofs.kept.end_each.Given as goal

-- closing the remaining positions now gives what closing all positions gave at the start
abbrev pub invariant-loop-place : goal.invariant-loop-place
invariant-loop-place l =
    closing l.moment (drop l.place-index l.places) (versions_of l.versions) ≡ closing l.moment l.places
    (versions_of l.initial.versions)
