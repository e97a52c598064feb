-- What a run reads and writes, the state that it leaves, and where it stops.
use Rattle.std.specs.Prelude.{◌≡◌, ◌⊎◌, ◌≤◌, ◌<◌, ◌-◌, ◌^◌, ◌==◌, ◌&&◌, not, ℕ, suc, if◌then◌else◌, Bool, true, false}
use Rattle.std.specs.Prelude.{List, [], ◌∷◌, ◌++◌, length, filter, count_by, Option, Some, Result, Ok, Err}
use Rattle.std.specs.Prelude.{IsTrue, IsFalse, MatchBool}
use Rattle.tql_spec.specs.Machine.{State, Done, Table, Refused}
use Rattle.tql_spec.specs.Answer.{Answer, Replied, Accepted}
use Rattle.tql_spec.specs.Script.{Piece, statements}
use Rattle.tql_spec.specs.Text.{answer_text, answers_text}
use Rattle.tql_spec.specs.Run.{Answering, RunBy}
use Rattle.tql_spec.specs.Lines.{placed_statements}
use Rattle.tql_result.specs.Devices.{Appends, HasFailed}
use Rattle.tql_run.specs.Hearing.{Hears, HearingChange, notes_of}
use Rattle.tql_run.specs.Responding.{Standing}
use Rattle.tql_run.specs.declared.runner.Summary.{Summary}
use Rattle.tql_run.specs.declared.runner.Fault.{Fault}
use Rattle.tql_run.specs.declared.runner.Fault.TheVariants.{Read, Write, Memory}

-- ---- sources

-- if the bytes left in the source are known, they begin with these bytes, and the rest is left
pub record Gives (old : Option (List ℕ)) (bytes : List ℕ) (new : Option (List ℕ)) : Type 0 where
  pub told : (xs : List ℕ) → old ≡ Some xs → (rest : List ℕ) × (xs ≡ bytes ++ rest) × (new ≡ Some rest)

-- if the bytes left in the source are known, there are none
pub record IsAtEnd (left : Option (List ℕ)) : Type 0 where
  pub nothing : (xs : List ℕ) → left ≡ Some xs → xs ≡ []

-- whether a pull into a buffer of this length reports the end of the input: it gives no bytes although there is room
abbrev pub is_end : {E : Type 0} → Result ℕ E → ℕ → Bool
is_end (Ok n) len = (n == 0) && not (len == 0)
is_end (Err e) len = false

-- the state of a source before and after: the bytes that are left, the number of counted failures, and whether its last
-- pull reported the end of the input
pub record SourceChange : Type 0 where
  pub left_old : Option (List ℕ)
  pub left_new : Option (List ℕ)
  pub failures_old : ℕ
  pub failures_new : ℕ
  pub ended : Bool

-- the same for a source whose type has these ghosts
abbrev pub source_change : {S : Type 0} → (left : S → Option (List ℕ)) → (failures : S → ℕ) → (ended : S → Bool)
    → (old new : S) → SourceChange
source_change left failures ended old new = record {
  left_old = left old;
  left_new = left new;
  failures_old = failures old;
  failures_new = failures new;
  ended = ended new;
}

-- the maximum number of pulls in one run
abbrev pub most_pulls : ℕ
most_pulls = 2 ^ 48 - 1

-- the maximum number of bytes that the pulls give
abbrev pub most_bytes : ℕ
most_bytes = 2 ^ 64 - 1

-- the end of the input was reached: the last pull reported it, nothing is left, and no pull failed
pub record MeetsEnd (source : SourceChange) : Type 0 where
  pub met : IsTrue source.ended
  pub at_end : IsAtEnd source.left_new
  pub steady : source.failures_new ≡ source.failures_old

-- the end of the input was not reached: the source failed, or gave 2^48 - 1 bytes or more
pub record MissesEnd (source : SourceChange) (read : List ℕ) : Type 0 where
  pub unmet : IsFalse source.ended
  pub cause : HasFailed source.failures_old source.failures_new ⊎ (most_pulls ≤ length read)

-- ---- sinks

-- the state of a sink before and after: its contents, the number of counted failures, whether it is flushed, and
-- whether a flush may fail
pub record SinkChange : Type 0 where
  pub held_old : Option (List ℕ)
  pub held_new : Option (List ℕ)
  pub failures_old : ℕ
  pub failures_new : ℕ
  pub flushed : Bool
  pub flushes_fail : Bool

-- the same for a sink whose type has these ghosts
abbrev pub sink_change : {S : Type 0} → (written : S → Option (List ℕ)) → (failures : S → ℕ) → (flushed : S → Bool)
    → (flushes_fail : Bool) → (old new : S) → SinkChange
sink_change written failures flushed flushes_fail old new = record {
  held_old = written old;
  held_new = written new;
  failures_old = failures old;
  failures_new = failures new;
  flushed = flushed new;
  flushes_fail = flushes_fail;
}

-- ---- answers

-- whether an answer is a refusal
abbrev pub is_refused : Answer → Bool
is_refused (Replied (Refused e)) = true
is_refused (Replied (Done v n)) = false
is_refused (Replied (Table hs rows)) = false
is_refused Accepted = false

-- the summary counts the answers, and the refusals among them
pub record Counts (summary : Summary) (answers : List Answer) : Type 0 where
  pub statements : summary.statements ≡ length answers
  pub refused : summary.refused ≡ count_by is_refused answers

-- the counts increased by one answer
abbrev pub count_of : Summary → Answer → Summary
count_of summary answer = record {
  statements = suc summary.statements;
  refused = if is_refused answer then suc summary.refused else summary.refused;
}

-- the statements that a run answers: all statements of a script that was read to its end, otherwise the whole ones
abbrev pub answered : Bool → List ℕ → List Piece
answered true script = statements script
answered false script = filter (λ (p : Piece). p.finished) (statements script)

-- `done` is a prefix of the pieces
pub record IsBeginning (done pieces : List Piece) : Type 0 where
  pub others : List Piece
  pub parts : pieces ≡ done ++ others

-- ---- outcomes of a run

-- In each case the listener is notified of exactly those answered statements that were refused, each with its number
-- and its line.

-- the whole script was read, each of its statements was answered, no device failed, and the sink is flushed
pub record RunsWhole (A : Answering) (s : State) (after : Standing) (source : SourceChange) (sink : SinkChange)
    (hearing : HearingChange) (summary : Summary) : Type 0 where
  pub script : List ℕ
  pub given : Gives source.left_old script source.left_new
  pub ended : MeetsEnd source
  pub answers : List Answer
  pub state : State
  pub ran : RunBy A s (answered true script) answers state
  pub stands : after state
  pub heard : Hears hearing.heard_old (notes_of (placed_statements script) answers) hearing.heard_new
  pub written : Appends sink.held_old (answers_text answers) sink.held_new
  pub counts : Counts summary answers
  pub writes : sink.failures_new ≡ sink.failures_old
  pub flushed : IsTrue sink.flushed

-- the end of the input was not reached: the whole statements in the bytes read so far are answered, and the sink is
-- flushed
pub record StopsReading (A : Answering) (s : State) (after : Standing) (source : SourceChange) (sink : SinkChange)
    (hearing : HearingChange) : Type 0 where
  pub script : List ℕ
  pub given : Gives source.left_old script source.left_new
  pub cut : MissesEnd source script
  pub answers : List Answer
  pub state : State
  pub ran : RunBy A s (answered false script) answers state
  pub stands : after state
  pub heard : Hears hearing.heard_old (notes_of (placed_statements script) answers) hearing.heard_new
  pub written : Appends sink.held_old (answers_text answers) sink.held_new
  pub writes : sink.failures_new ≡ sink.failures_old
  pub flushed : IsTrue sink.flushed

-- the text written for the answers: all but the last are complete, and the last is cut to a proper prefix
pub record CutsLast (answers : List Answer) (text : List ℕ) : Type 0 where
  pub earlier : List Answer
  pub last : Answer
  pub all : answers ≡ earlier ++ last ∷ []
  pub front : List ℕ
  pub back : List ℕ
  pub parts : answer_text last ≡ front ++ back
  pub lacks : 0 < length back
  pub is : text ≡ answers_text earlier ++ front

-- The sink failed. If it failed at an answer, the statement of that answer is the last that ran. If it failed at a
-- flush, which must be allowed to fail, all whole statements in the bytes read have run. The source had not failed. The
-- statements that ran are the first ones of the script, whatever may still follow the bytes read; after the end of the
-- input, nothing follows.
pub record StopsWriting (A : Answering) (s : State) (after : Standing) (source : SourceChange) (sink : SinkChange)
    (hearing : HearingChange) : Type 0 where
  pub script : List ℕ
  pub given : Gives source.left_old script source.left_new
  pub met : Bool
  pub read : MatchBool met (MeetsEnd source) (source.failures_new ≡ source.failures_old)
  pub done : List Piece
  pub rest : List Piece
  pub parts : answered met script ≡ done ++ rest
  pub first : (more : List ℕ) → (IsTrue met → more ≡ []) → IsBeginning done (statements (script ++ more))
  pub answers : List Answer
  pub state : State
  pub ran : RunBy A s done answers state
  pub stands : after state
  pub heard : Hears hearing.heard_old (notes_of (placed_statements script) answers) hearing.heard_new
  pub text : List ℕ
  pub reached : CutsLast answers text ⊎ ((rest ≡ []) × (text ≡ answers_text answers) × IsTrue sink.flushes_fail)
  pub written : Appends sink.held_old text sink.held_new
  pub cause : HasFailed sink.failures_old sink.failures_new

-- the memory for the start of a run was refused: nothing was read, run or written
pub record NothingRun (A : Answering) (s : State) (after : Standing) (source : SourceChange) (sink : SinkChange)
    (hearing : HearingChange) : Type 0 where
  pub left : source.left_new ≡ source.left_old
  pub reads : source.failures_new ≡ source.failures_old
  pub stands : after s
  pub heard : Hears hearing.heard_old [] hearing.heard_new
  pub written : Appends sink.held_old [] sink.held_new
  pub writes : sink.failures_new ≡ sink.failures_old

-- the outcome of a run by its result, given the relation of its answers, the state that the responder represented, and
-- the states that it represents afterwards
abbrev pub Runs : Answering → State → Standing → SourceChange → SinkChange → HearingChange → Result Summary Fault
    → Type 0
Runs A s after source sink hearing (Ok summary) = RunsWhole A s after source sink hearing summary
Runs A s after source sink hearing (Err Read) = StopsReading A s after source sink hearing
Runs A s after source sink hearing (Err Write) = StopsWriting A s after source sink hearing
Runs A s after source sink hearing (Err Memory) = NothingRun A s after source sink hearing
