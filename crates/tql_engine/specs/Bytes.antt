-- The result of a run over bytes in memory: the output, and the state that the engine represents.
use Rattle.std.specs.Prelude.{◌≡◌, ◌<◌, ◌≤◌, ℕ, List, ◌++◌, length, map, Result, Ok, Err}
use Rattle.tql_spec.specs.Machine.{State, Reply}
use Rattle.tql_spec.specs.Answer.{Replied}
use Rattle.tql_spec.specs.Script.{Piece, statements}
use Rattle.tql_spec.specs.Run.{Run, Writes}
use Rattle.tql_run.specs.Responding.{Standing}
use Rattle.tql_run.specs.Runs.{Counts, CutsLast, most_pulls}
use Rattle.tql_run.specs.declared.runner.Summary.{Summary}
use Rattle.tql_run.specs.declared.runner.Fault.{Fault}
use Rattle.tql_run.specs.declared.runner.Fault.TheVariants.{Read, Write, Memory}
use Rattle.tql_run.specs.Ending.{AllEndSurely}

-- the whole script ran: what the script writes is appended to the output
pub record WritesWhole (s : State) (after : Standing) (script old new : List ℕ) (summary : Summary) : Type 0 where
  pub state : State
  pub stands : after state
  pub pushed : List ℕ
  pub writes : Writes s script pushed state
  pub ends : AllEndSurely (statements script) writes.0
  pub behind : new ≡ old ++ pushed
  pub counts : Counts summary (map Replied writes.0)

-- the output could not grow: the last statement that ran is the one whose reply did not fit; the replies before that
-- one are appended to the output, and then a part of it that is not all of it
pub record StopsWriting (s : State) (after : Standing) (script old new : List ℕ) : Type 0 where
  pub done : List Piece
  pub rest : List Piece
  pub parts : statements script ≡ done ++ rest
  pub replies : List Reply
  pub state : State
  pub ran : Run s done replies state
  pub ends : AllEndSurely done replies
  pub stands : after state
  pub pushed : List ℕ
  pub cut : CutsLast (map Replied replies) pushed
  pub behind : new ≡ old ++ pushed

-- by the result; a script in memory is read to its end, unless it has 2^48 - 1 bytes or more: then nothing ran
abbrev pub RunsBytes : State → Standing → (script old new : List ℕ) → Result Summary Fault → Type 0
RunsBytes s after script old new (Ok summary) = WritesWhole s after script old new summary
RunsBytes s after script old new (Err Write) = StopsWriting s after script old new
RunsBytes s after script old new (Err Memory) = (length script < most_pulls) × after s × (new ≡ old)
RunsBytes s after script old new (Err Read) = (most_pulls ≤ length script) × after s × (new ≡ old)
