use Rattle.std.proofs.Common.{drop}
use Rattle.std.specs.List.{flat_map}
use Rattle.tql_terminal.specs.Dashes.{dashed_row}
use Rattle.tql_result.specs.Devices.{held}
use Rattle.tql_result.proofs.Pushing.{Sent}
use Rattle.tql_result_box.specs.Box.{row_line}
use Rattle.tql_terminal.proofs.lines.push_rows.Given as goal

abbrev pub invariant-loop-row : goal.invariant-loop-row
invariant-loop-row g l =
    Sent (flat_map (λ r. row_line l.layouts (dashed_row r.items)) l.rows)
    (flat_map (λ r. row_line l.layouts (dashed_row r.items)) (drop l.row-index l.rows))
    (held g.S.Sink.written g.S.Sink.kept l.initial.sink) (held g.S.Sink.written g.S.Sink.kept l.sink)
    (g.S.Sink.failures l.initial.sink)
    (g.S.Sink.failures l.sink)
