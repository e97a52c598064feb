use Rattle.std.proofs.Common.{length, drop, map, string_bytes}
use Rattle.tql_result_laws.specs.Json.{parted}
use Rattle.tql_result_laws.specs.Jsonl.{row_members}
use Rattle.tql_value.specs.Views.{row_of}
use Rattle.tql_result.specs.Devices.{held}
use Rattle.tql_result.proofs.Pushing.{Sent}
use Rattle.tql_result_forms.proofs.Parting.{parted_after}
use Rattle.tql_result_forms.proofs.jsonl.push_members.Given as goal

abbrev pub invariant-loop-name : goal.invariant-loop-name
invariant-loop-name g l =
    Sent (parted (row_members (map string_bytes l.names) (row_of l.cells)))
    (parted_after l.front
    (row_members (map string_bytes (drop (length l.yielded) l.names)) (row_of (drop (length l.yielded) l.cells))))
    (held g.S.Sink.written g.S.Sink.kept l.initial.sink) (held g.S.Sink.written g.S.Sink.kept l.sink)
    (g.S.Sink.failures l.initial.sink)
    (g.S.Sink.failures l.sink)
