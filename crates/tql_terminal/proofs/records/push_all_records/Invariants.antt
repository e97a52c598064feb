use Rattle.std.proofs.Common.{◌≡◌, drop, map, string_bytes}
use Rattle.tql_result.specs.Devices.{held}
use Rattle.tql_result.proofs.Pushing.{Sent}
use Rattle.tql_terminal.specs.Dashes.{dashed_row}
use Rattle.tql_terminal.specs.Terminal.{records_after}
use Rattle.tql_terminal.proofs.records.push_all_records.Given as goal

abbrev pub invariant-loop-row : goal.invariant-loop-row
invariant-loop-row g l = record {
  at : l.number ≡ l.row-index;
  sent : Sent (records_after 0 l.width (map string_bytes l.names) (map (λ r. dashed_row r.items) l.rows))
      (records_after l.number l.width (map string_bytes l.names)
      (map (λ r. dashed_row r.items) (drop l.row-index l.rows)))
      (held g.S.Sink.written g.S.Sink.kept l.initial.sink) (held g.S.Sink.written g.S.Sink.kept l.sink)
      (g.S.Sink.failures l.initial.sink)
      (g.S.Sink.failures l.sink);
}
