use Rattle.std.proofs.Common.{map, drop, string_bytes}
use Rattle.std.specs.List.{concat}
use Rattle.tql_result.specs.Devices.{held}
use Rattle.tql_result.proofs.Pushing.{Sent}
use Rattle.tql_result_box.specs.Box.{heading_box, laid}
use Rattle.tql_result_box.proofs.lines.push_names.Given as goal

abbrev pub invariant-loop-name : goal.invariant-loop-name
invariant-loop-name g l =
    Sent (concat (laid heading_box l.layouts (map string_bytes l.names)))
    (concat (laid heading_box l.behind (map string_bytes (drop l.name-index l.names))))
    (held g.S.Sink.written g.S.Sink.kept l.initial.sink) (held g.S.Sink.written g.S.Sink.kept l.sink)
    (g.S.Sink.failures l.initial.sink)
    (g.S.Sink.failures l.sink)
