use Rattle.std.proofs.Common.{take}
use Rattle.tql_exec_pairs.specs.Pushed.{Pushed}
use Rattle.tql_versions.specs.Readings.{open_ones}
use Rattle.tql_versions.specs.Views.{versions_of}
use Rattle.tql_exec_read.specs.Filters.{asked}
use Rattle.tql_exec_read.proofs.pushing.push_open_admitted.Given as goal

-- invariant: the sink was handed the wanted rows of the versions so far
abbrev pub invariant-loop-id : goal.invariant-loop-id
invariant-loop-id g l =
    Pushed (g.S.Sink.knows l.sink) (asked l.filter (open_ones (versions_of (take l.id l.versions)))) l.fn.state l.state
