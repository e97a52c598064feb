use Rattle.std.proofs.Common.{map, drop, string_bytes}
use Rattle.tql_result.specs.Devices.{held}
use Rattle.tql_result.proofs.Pushing.{Sent}
use Rattle.tql_result_box.specs.Box.{bar, joined, laid}
use Rattle.tql_result_box.proofs.Columns.{joined_after}
use Rattle.tql_result_box.proofs.lines.push_bars.Given as goal

abbrev pub invariant-columns : goal.invariant-columns
invariant-columns g l =
    Sent (joined l.cross (laid (λ l h. bar l.width) l.layouts (map string_bytes l.names)))
    (joined_after l.front l.cross (laid (λ l h. bar l.width) l.behind (map string_bytes (drop l.index l.names))))
    (held g.S.Sink.written g.S.Sink.kept l.initial.sink) (held g.S.Sink.written g.S.Sink.kept l.sink)
    (g.S.Sink.failures l.initial.sink)
    (g.S.Sink.failures l.sink)
