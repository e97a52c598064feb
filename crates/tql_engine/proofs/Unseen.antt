-- The pruning of a run over bytes in memory is not visible in its other answers.
use Rattle.std.proofs.Common.{ℕ, List, Ok, Err}
use Rattle.std.specs.Prelude.{Result}
use Rattle.tql_spec.specs.HorizonLaws.{PrunesAreUnseen}
use Rattle.tql_spec.specs.Machine.{State}
use Rattle.tql_spec.specs.Reached.{IsInOrder}
use Rattle.tql_spec.specs.Script.{statements}
use Rattle.tql_run.specs.Responding.{Standing}
use Rattle.tql_run.specs.declared.runner.Summary.{Summary}
use Rattle.tql_run.specs.declared.runner.Fault.{Fault}
use Rattle.tql_run.specs.declared.runner.Fault.TheVariants.{Read, Write, Memory}
use Rattle.tql_engine.specs.Bytes.{RunsBytes}
use Rattle.tql_engine.specs.Unseen.{BytesPruneUnseen}

pub bytes_unseen : PrunesAreUnseen → (s : State) (after : Standing) (script old new : List ℕ)
    (result : Result Summary Fault) → IsInOrder s → RunsBytes s after script old new result
    → BytesPruneUnseen s after script old new result
bytes_unseen law s after script old new (Ok summary) ordered w =
    (w, law s w.state (statements script) w.writes.0 ordered w.writes.1)
bytes_unseen law s after script old new (Err Write) ordered w =
    (w, law s w.state w.done w.replies ordered w.ran)
bytes_unseen law s after script old new (Err Memory) ordered w = w.1
bytes_unseen law s after script old new (Err Read) ordered w = w.1
