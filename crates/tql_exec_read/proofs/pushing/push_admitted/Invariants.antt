use Rattle.std.proofs.Common.{map, take}
use Rattle.tql_exec_pairs.specs.Pushed.{Pushed}
use Rattle.tql_versions.specs.Readings.{version_shown as version_of}
use Rattle.tql_exec_read.specs.Filters.{asked}
use Rattle.tql_exec_read.proofs.pushing.push_admitted.Given as goal

-- invariant: the sink was handed the wanted rows of the versions so far
abbrev pub invariant-loop-version : goal.invariant-loop-version
invariant-loop-version g l =
    Pushed (g.S.Sink.knows l.sink) (asked l.filter (map version_of (take l.version-index l.versions))) l.fn.state
    l.state
