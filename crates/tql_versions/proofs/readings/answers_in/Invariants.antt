use Rattle.std.proofs.Common.{◌≡◌, ◌++◌, map, drop}
use Rattle.tql_versions.specs.Readings.{answer_of, answers_from}
use Rattle.tql_versions.specs.Views.{versions_of}
use Rattle.tql_versions.proofs.readings.answers_in.Given as goal

-- the versions found so far, and those selected of the rest, are the answers
abbrev pub invariant-loop-id : goal.invariant-loop-id
invariant-loop-id l = map answer_of l.found.items ++ answers_from l.id l.when (versions_of (drop l.id l.versions)) ≡
    answers_from 0 l.when (versions_of l.versions)
