-- The answers of a run over bytes in memory, apart from pruning.
use Rattle.std.specs.Prelude.{ℕ, List, Result, Ok, Err}
use Rattle.tql_spec.specs.HorizonLaws.{RunsWithout, other_pieces, other_replies}
use Rattle.tql_spec.specs.Machine.{State}
use Rattle.tql_spec.specs.Script.{statements}
use Rattle.tql_run.specs.Responding.{Standing}
use Rattle.tql_run.specs.declared.runner.Summary.{Summary}
use Rattle.tql_run.specs.declared.runner.Fault.{Fault}
use Rattle.tql_run.specs.declared.runner.Fault.TheVariants.{Read, Write, Memory}
use Rattle.tql_engine.specs.Bytes.{WritesWhole, StopsWriting}

-- by the result of the run: without the statements that pruned, or were refused for the horizon, the run that wrote the
-- output is a run with the same replies; its state has only kept more; else nothing ran
abbrev pub BytesPruneUnseen : State → Standing → (script old new : List ℕ) → Result Summary Fault → Type 0
BytesPruneUnseen s after script old new (Ok summary) =
    (w : WritesWhole s after script old new summary)
    × RunsWithout s (other_pieces (statements script) w.writes.0) (other_replies w.writes.0) w.state
BytesPruneUnseen s after script old new (Err Write) =
    (w : StopsWriting s after script old new)
    × RunsWithout s (other_pieces w.done w.replies) (other_replies w.replies) w.state
BytesPruneUnseen s after script old new (Err Memory) = after s
BytesPruneUnseen s after script old new (Err Read) = after s
