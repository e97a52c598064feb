use Rattle.std.proofs.Common.{drop, map, string_bytes}
use Rattle.tql_result.specs.Devices.{held}
use Rattle.tql_result.proofs.Pushing.{Sent}
use Rattle.tql_terminal.specs.Dashes.{dashed_row}
use Rattle.tql_terminal.specs.Terminal.{fields}
use Rattle.tql_terminal.proofs.records.push_fields.Given as goal

abbrev pub invariant-loop-cell : goal.invariant-loop-cell
invariant-loop-cell g l =
    Sent (fields l.width (map string_bytes l.names) (dashed_row l.cells))
    (fields l.width (map string_bytes l.behind) (dashed_row (drop l.cell-index l.cells)))
    (held g.S.Sink.written g.S.Sink.kept l.initial.sink) (held g.S.Sink.written g.S.Sink.kept l.sink)
    (g.S.Sink.failures l.initial.sink)
    (g.S.Sink.failures l.sink)
