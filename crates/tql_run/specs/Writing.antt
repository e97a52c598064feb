-- The statements of a script that were answered, and the texts of their answers.
use Rattle.std.specs.Prelude.{◌≡◌, ◌⊎◌, ◌<◌, ◌≤◌, ◌+◌, ℕ, List, ◌++◌, length, Option, Some, None, Result, Ok, Err}
use Rattle.std.specs.Prelude.{Bool, true, IsTrue, IsFalse, MatchBool}
use Rattle.std.specs.List.{list_all}
use Rattle.tql_spec.specs.Machine.{State}
use Rattle.tql_spec.specs.Answer.{Answer}
use Rattle.tql_spec.specs.Script.{Piece, statements}
use Rattle.tql_spec.specs.Run.{Answering, RunBy}
use Rattle.tql_spec.specs.Lines.{Placed, placed_from, placed_statements}
use Rattle.tql_splitter.specs.Stream.{Stream, to_do}
use Rattle.tql_splitter.specs.Holding.{Holds}
use Rattle.tql_splitter.specs.Pieces.{MayFollow, HasNone, GivesOne, GivesNone}
use Rattle.tql_result.specs.Devices.{Appends, HasFailed}
use Rattle.tql_result.specs.Replies.{IsPrintableAnswer, answer_of}
use Rattle.tql_result.specs.declared.answer.Answer as code
use Rattle.tql_run.specs.Hearing.{Heard, Hears, notes_of}
use Rattle.tql_run.specs.Responding.{Answered, Standing}
use Rattle.tql_run.specs.Runs.{Counts, IsBeginning, answered}
use Rattle.tql_run.specs.RunsIn.{Manner, CutsLastIn, FailsFlush, EndsRefused, stops}
use Rattle.tql_run.specs.Runs.{most_bytes}
use Rattle.tql_run.specs.Texts.{AreTexts, Written}
use Rattle.tql_run.specs.declared.runner.Summary.{Summary}
use Rattle.tql_run.specs.declared.runner.Fault.{Fault}
use Rattle.tql_run.specs.declared.runner.Fault.TheVariants.{Read, Write, Memory}

-- the statement has this answer, for each state that the responder represented
abbrev pub IsAnswered : Answering → code.Answer → (before after : Standing) → Piece → Type 0
IsAnswered A answer before after p = (s : State) → before s → Answered A s p (answer_of answer) after

-- the next statement was taken and answered
pub record AnswersOne (A : Answering) (old new : Stream) (answer : code.Answer) (before after : Standing) : Type 0
  where
    pub one : GivesOne (IsAnswered A answer before after) old new
    pub printable : IsPrintableAnswer (answer_of answer)

-- the bytes fed so far contain no further whole statement
pub record AnswersNone (old new : Stream) (before after : Standing) : Type 0 where
  pub none : GivesNone old new
  pub stands : (s : State) → before s → after s

-- the next statement was answered, or there is none
abbrev pub AnswersNext : Answering → Option code.Answer → (old new : Stream) → (before after : Standing) → Type 0
AnswersNext A None old new before after = AnswersNone old new before after
AnswersNext A (Some answer) old new before after = AnswersOne A old new answer before after

-- the contents of a sink, its count of failures, and the record of a listener
pub record Shown : Type 0 where
  pub held : Option (List ℕ)
  pub writes : ℕ
  pub heard : Option (List Heard)

-- the same for a sink and a listener whose types have these ghosts
abbrev pub shown : {O L : Type 0} → (written : O → Option (List ℕ)) → (failures : O → ℕ)
    → (heard : L → Option (List Heard)) → O → L → Shown
shown written failures heard sink listener =
    record { held = written sink; writes = failures sink; heard = heard listener }

-- `passed` is the part of the script that was processed, and `left` is the rest. The first statements were answered,
-- and their answers written. Unless `ended` is set, all of them are finished.
pub record Wrote (M : Manner) (s : State) (script passed left : List ℕ) (ended : Bool) (after : Standing)
    (form : Written) (summary : Summary) (from now : Shown) : Type 0 where
  pub parts : script ≡ passed ++ left
  pub done : List Piece
  pub first : (more : List ℕ) → MayFollow ended more → statements (script ++ more) ≡ done ++ statements (left ++ more)
  pub finished : IsFalse ended → IsTrue (list_all (λ (p : Piece). p.finished) done)
  pub places : List Placed
  pub placed : (more : List ℕ) → MayFollow ended more
      → placed_statements (script ++ more) ≡ places ++ placed_from passed (left ++ more)
  pub answers : List Answer
  pub state : State
  pub ran : RunBy M.answering s done answers state
  pub stands : after state
  pub wrote : form answers
  pub text : List ℕ
  pub texts : AreTexts M.style.texts places answers text
  pub written : Appends from.held text now.held
  pub even : length places ≡ length answers
  pub heard : Hears from.heard (notes_of places answers) now.heard
  pub counts : Counts summary answers
  pub steady : now.writes ≡ from.writes

-- the same for the position of the splitter
pub record WroteTo (M : Manner) (s : State) (script : List ℕ) (stream : Stream) (after : Standing) (form : Written)
    (summary : Summary) (from now : Shown) : Type 0 where
  pub passed : List ℕ
  pub left : List ℕ
  pub holds : Holds stream passed left
  pub wrote : Wrote M s script passed left stream.ended after form summary from now

-- in addition, no statement is left that can be answered
pub record WroteAll (M : Manner) (s : State) (script : List ℕ) (stream : Stream) (after : Standing) (form : Written)
    (summary : Summary) (from now : Shown) : Type 0 where
  pub to : WroteTo M s script stream after form summary from now
  pub none : HasNone stream.ended to.left

-- in addition, the last answer is the refusal that stops the run
pub record WroteRefusal (M : Manner) (s : State) (script : List ℕ) (stream : Stream) (after : Standing)
    (form : Written) (summary : Summary) (from now : Shown) : Type 0 where
  pub to : WroteTo M s script stream after form summary from now
  pub refused : EndsRefused to.wrote.answers

-- the sink failed at an answer, or at a flush after the last answer, if a flush may fail
pub record SinkFailed (M : Manner) (s : State) (script : List ℕ) (ended : Bool) (after : Standing)
    (flushes_fail : Bool) (from now : Shown) : Type 0 where
  pub done : List Piece
  pub rest : List Piece
  pub parts : answered ended script ≡ done ++ rest
  pub first : (more : List ℕ) → MayFollow ended more → IsBeginning done (statements (script ++ more))
  pub answers : List Answer
  pub state : State
  pub ran : RunBy M.answering s done answers state
  pub stands : after state
  pub heard : Hears from.heard (notes_of (placed_statements script) answers) now.heard
  pub text : List ℕ
  pub reached : CutsLastIn M (placed_statements script) answers text
      ⊎ FailsFlush M flushes_fail rest (placed_statements script) answers text
  pub written : Appends from.held text now.held
  pub cause : HasFailed from.writes now.writes

-- by the counts: all statements were answered up to a refusal that stops the run, or all that can be answered
pub record WroteReady (M : Manner) (s : State) (script : List ℕ) (stream : Stream) (after : Standing) (form : Written)
    (summary : Summary) (from now : Shown) : Type 0 where
  pub is : MatchBool (stops M.bail summary) (WroteRefusal M s script stream after form summary from now)
      (WroteAll M s script stream after form summary from now)

-- the outcome, by the result
abbrev pub WroteOrFailed : {T E : Type 0} → Manner → Result T E → State → (script : List ℕ) → Stream → Standing
    → Written → Summary → (flushes_fail : Bool) → (from now : Shown) → Type 0
WroteOrFailed M (Ok t) s script stream after form summary fails from now =
    WroteReady M s script stream after form summary from now
WroteOrFailed M (Err e) s script stream after form summary fails from now =
    SinkFailed M s script stream.ended after fails from now

-- bounds on the counts: how they relate to the work that is left, and to each other
pub record Tallies (old new : Stream) (summary counted : Summary) : Type 0 where
  pub ended : new.ended ≡ old.ended
  pub room : counted.statements + to_do new ≤ summary.statements + to_do old
  pub grown : counted.refused + summary.statements ≤ counted.statements + summary.refused

-- the whole statements were answered, for each script of fewer than 2^64 - 1 bytes and each position of the splitter in
-- it
abbrev pub AnswersReady : {T E : Type 0} → Manner → Result T E → (old new : Stream) → (before after : Standing)
    → (had form : Written) → (summary counted : Summary) → (flushes_fail : Bool) → (now later : Shown) → Type 0
AnswersReady M result old new before after had form summary counted fails now later =
    (s : State) (script : List ℕ) (from : Shown) → length script < most_bytes
    → WroteTo M s script old before had summary from now
    → WroteOrFailed M result s script new after form counted fails from later

-- every statement of the script was answered, every answer was written, and the sink is flushed
pub record WroteScript (M : Manner) (s : State) (script : List ℕ) (after : Standing) (form : Written)
    (summary : Summary) (is_flushed : Bool) (from now : Shown) : Type 0 where
  pub answers : List Answer
  pub state : State
  pub ran : RunBy M.answering s (statements script) answers state
  pub stands : after state
  pub heard : Hears from.heard (notes_of (placed_statements script) answers) now.heard
  pub wrote : form answers
  pub text : List ℕ
  pub texts : AreTexts M.style.texts (placed_statements script) answers text
  pub written : Appends from.held text now.held
  pub counts : Counts summary answers
  pub steady : now.writes ≡ from.writes
  pub flushed : IsTrue is_flushed

-- the statements were answered up to a refusal that stops the run, every answer was written, and the sink is flushed
pub record RefusedAt (M : Manner) (s : State) (script : List ℕ) (ended : Bool) (after : Standing) (form : Written)
    (summary : Summary) (is_flushed : Bool) (from now : Shown) : Type 0 where
  pub done : List Piece
  pub rest : List Piece
  pub parts : answered ended script ≡ done ++ rest
  pub first : (more : List ℕ) → MayFollow ended more → IsBeginning done (statements (script ++ more))
  pub answers : List Answer
  pub refused : EndsRefused answers
  pub state : State
  pub ran : RunBy M.answering s done answers state
  pub stands : after state
  pub heard : Hears from.heard (notes_of (placed_statements script) answers) now.heard
  pub wrote : form answers
  pub text : List ℕ
  pub texts : AreTexts M.style.texts (placed_statements script) answers text
  pub written : Appends from.held text now.held
  pub counts : Counts summary answers
  pub steady : now.writes ≡ from.writes
  pub flushed : IsTrue is_flushed

-- the outcome, by the result
abbrev pub WroteScriptOrFailed : Manner → Result Summary Fault → State → (script : List ℕ) → Standing → Written
    → (flushes_fail is_flushed : Bool) → (from now : Shown) → Type 0
WroteScriptOrFailed M (Ok summary) s script after form fails is_flushed from now = MatchBool (stops M.bail summary)
    (RefusedAt M s script true after form summary is_flushed from now)
    (WroteScript M s script after form summary is_flushed from now)
WroteScriptOrFailed M (Err Write) s script after form fails is_flushed from now =
    SinkFailed M s script true after fails from now
WroteScriptOrFailed M (Err Read) s script after form fails is_flushed from now = ⊥
WroteScriptOrFailed M (Err Memory) s script after form fails is_flushed from now = ⊥

-- the end of the input was reached, and the rest of the script is answered
abbrev pub EndsRun : Manner → Result Summary Fault → (old : Stream) → (before after : Standing)
    → (had form : Written) → (summary : Summary) → (flushes_fail is_flushed : Bool) → (now later : Shown) → Type 0
EndsRun M result old before after had form summary fails is_flushed now later =
    (s : State) (script : List ℕ) (from : Shown) → length script < most_bytes
    → WroteTo M s script old before had summary from now
    → WroteScriptOrFailed M result s script after form fails is_flushed from later
