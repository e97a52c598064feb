-- The outcome of a run that writes its answers in a form, and that the first refusal may stop.
use Rattle.std.specs.Prelude.{◌≡◌, ◌⊎◌, ◌≤◌, ◌<◌, ◌+◌, ◌==◌, ◌&&◌, not, ℕ, Bool, true, false, List, [], ◌∷◌, ◌++◌}
use Rattle.std.specs.Prelude.{length, count_by, Result, Ok, Err, IsTrue, MatchBool}
use Rattle.tql_spec.specs.Machine.{State, Refused}
use Rattle.tql_spec.specs.Answer.{Answer, Replied}
use Rattle.tql_spec.specs.Script.{Piece, statements}
use Rattle.tql_spec.specs.Run.{Answering, RunBy}
use Rattle.tql_spec.specs.Lines.{Placed, placed_statements}
use Rattle.tql_spec.specs.Refusal.{Refusal}
use Rattle.tql_result.specs.Devices.{Appends, HasFailed}
use Rattle.tql_run.specs.Hearing.{Hears, HearingChange, notes_of}
use Rattle.tql_run.specs.Responding.{Standing}
use Rattle.tql_run.specs.Runs.{SourceChange, SinkChange, Gives, MeetsEnd, MissesEnd, Counts, IsBeginning, NothingRun}
use Rattle.tql_run.specs.Runs.{is_refused, answered}
use Rattle.tql_run.specs.Texts.{Style, Written, AreTexts, plain_style, line_after}
use Rattle.tql_run.specs.declared.runner.Summary.{Summary}
use Rattle.tql_run.specs.declared.runner.Fault.{Fault}
use Rattle.tql_run.specs.declared.runner.Fault.TheVariants.{Read, Write, Memory}

-- ---- how a run proceeds

-- the relation of its answers, the style of their texts, and whether the run stops at the first refusal
pub record Manner : Type 1 where
  pub answering : Answering
  pub style : Style
  pub bail : Bool

abbrev pub manner : Answering → Style → Bool → Manner
manner answering style bail = record { answering = answering; style = style; bail = bail }

-- the default: each answer has exactly one text, and a refusal does not stop the run
abbrev pub plainly : Answering → Manner
plainly answering = manner answering plain_style false

-- no answer is a refusal
abbrev pub NoneRefused : List Answer → Type 0
NoneRefused answers = count_by is_refused answers ≡ 0

-- if the first refusal stops the run, none of these answers is one
abbrev pub GoesOn : Bool → List Answer → Type 0
GoesOn bail answers = IsTrue bail → NoneRefused answers

-- the last answer is a refusal, and no other is
pub record EndsRefused (answers : List Answer) : Type 0 where
  pub earlier : List Answer
  pub refusal : Refusal
  pub all : answers ≡ earlier ++ Replied (Refused refusal) ∷ []
  pub others : NoneRefused earlier

-- whether the run was stopped by a refusal, judged by its counts
abbrev pub stops : Bool → Summary → Bool
stops bail summary = bail && not (summary.refused == 0)

-- the last part of the script came from at most one pull, and the bytes read before it have fewer whole statements
pub record PullsLast (count : ℕ) (script : List ℕ) : Type 0 where
  pub before : List ℕ
  pub last : List ℕ
  pub parts : script ≡ before ++ last
  pub small : length last ≤ 65_536
  pub fewer : length (answered false before) < count

-- ---- outcomes of a run

-- In each case the listener is notified of exactly those answered statements that were refused, each with its number
-- and its line. If no device failed at an answer, the form has written these answers (`wrote`).

-- the whole script was read, each of its statements was answered, no device failed, and the sink is flushed
pub record RunsWholeIn (M : Manner) (s : State) (after : Standing) (form : Written) (source : SourceChange)
    (sink : SinkChange) (hearing : HearingChange) (summary : Summary) : Type 0 where
  pub script : List ℕ
  pub given : Gives source.left_old script source.left_new
  pub ended : MeetsEnd source
  pub answers : List Answer
  pub goes_on : GoesOn M.bail answers
  pub state : State
  pub ran : RunBy M.answering s (answered true script) answers state
  pub stands : after state
  pub heard : Hears hearing.heard_old (notes_of (placed_statements script) answers) hearing.heard_new
  pub wrote : form answers
  pub text : List ℕ
  pub texts : AreTexts M.style.texts (placed_statements script) answers text
  pub written : Appends sink.held_old text sink.held_new
  pub counts : Counts summary answers
  pub writes : sink.failures_new ≡ sink.failures_old
  pub flushed : IsTrue sink.flushed

-- The run was stopped by its first refusal, that of the last statement that ran. The statements of the script ran up to
-- that one, whatever may still follow the bytes read; after the end of the input, nothing follows. No device failed,
-- and the sink is flushed. Nothing was pulled after the refusal: the bytes before the last pull, which gave at most
-- 65,536 bytes, have fewer whole statements.
pub record RunsToRefusal (M : Manner) (s : State) (after : Standing) (form : Written) (source : SourceChange)
    (sink : SinkChange) (hearing : HearingChange) (summary : Summary) : Type 0 where
  pub script : List ℕ
  pub given : Gives source.left_old script source.left_new
  pub met : Bool
  pub read : MatchBool met (MeetsEnd source) (source.failures_new ≡ source.failures_old)
  pub done : List Piece
  pub rest : List Piece
  pub parts : answered met script ≡ done ++ rest
  pub first : (more : List ℕ) → (IsTrue met → more ≡ []) → IsBeginning done (statements (script ++ more))
  pub answers : List Answer
  pub refused : EndsRefused answers
  pub state : State
  pub ran : RunBy M.answering s done answers state
  pub stands : after state
  pub heard : Hears hearing.heard_old (notes_of (placed_statements script) answers) hearing.heard_new
  pub wrote : form answers
  pub text : List ℕ
  pub texts : AreTexts M.style.texts (placed_statements script) answers text
  pub written : Appends sink.held_old text sink.held_new
  pub counts : Counts summary answers
  pub writes : sink.failures_new ≡ sink.failures_old
  pub flushed : IsTrue sink.flushed
  pub pulled : PullsLast (length answers) script

-- the end of the input was not reached: the whole statements in the bytes read so far are answered, and the sink is
-- flushed
pub record StopsReadingIn (M : Manner) (s : State) (after : Standing) (form : Written) (source : SourceChange)
    (sink : SinkChange) (hearing : HearingChange) : Type 0 where
  pub script : List ℕ
  pub given : Gives source.left_old script source.left_new
  pub cut : MissesEnd source script
  pub answers : List Answer
  pub goes_on : GoesOn M.bail answers
  pub state : State
  pub ran : RunBy M.answering s (answered false script) answers state
  pub stands : after state
  pub heard : Hears hearing.heard_old (notes_of (placed_statements script) answers) hearing.heard_new
  pub wrote : form answers
  pub text : List ℕ
  pub texts : AreTexts M.style.texts (placed_statements script) answers text
  pub written : Appends sink.held_old text sink.held_new
  pub writes : sink.failures_new ≡ sink.failures_old
  pub flushed : IsTrue sink.flushed

-- the text written for the answers to the first of these statements: all but the last are complete, and the last is cut
-- to a proper prefix. No earlier answer is a refusal that stops the run.
pub record CutsLastIn (M : Manner) (places : List Placed) (answers : List Answer) (text : List ℕ) : Type 0 where
  pub earlier : List Answer
  pub last : Answer
  pub all : answers ≡ earlier ++ last ∷ []
  pub goes_on : GoesOn M.bail earlier
  pub before : List ℕ
  pub texts : AreTexts M.style.texts places earlier before
  pub front : List ℕ
  pub back : List ℕ
  pub is_text : M.style.texts earlier (1 + length earlier) (line_after (length earlier) places) last (front ++ back)
  pub lacks : 0 < length back
  pub is : text ≡ before ++ front

-- the last answer is to be reported; no earlier answer is a refusal that stops the run
pub record EndsReported (M : Manner) (answers : List Answer) : Type 0 where
  pub earlier : List Answer
  pub last : Answer
  pub all : answers ≡ earlier ++ last ∷ []
  pub goes_on : GoesOn M.bail earlier
  pub is_reported : IsTrue (M.style.reported last)

-- all answers were written completely, and then a flush failed, which must be allowed. Either no statement is left to
-- be answered, or the last answer is the refusal that stops the run, or it is to be reported.
pub record FailsFlush (M : Manner) (flushes_fail : Bool) (rest : List Piece) (places : List Placed)
    (answers : List Answer) (text : List ℕ) : Type 0 where
  pub allowed : IsTrue flushes_fail
  pub texts : AreTexts M.style.texts places answers text
  pub all : ((rest ≡ []) × GoesOn M.bail answers) ⊎ ((IsTrue M.bail × EndsRefused answers) ⊎ EndsReported M answers)

-- The sink failed. If it failed at an answer, the statement of that answer is the last that ran. If it failed at a
-- flush, which must be allowed to fail, one of three groups has run: all whole statements in the bytes read, those up
-- to the refusal that stops the run, or those up to an answer to be reported. The source had not failed. The statements
-- that ran are the first ones of the script, whatever may still follow the bytes read; after the end of the input,
-- nothing follows.
pub record StopsWritingIn (M : Manner) (s : State) (after : Standing) (source : SourceChange) (sink : SinkChange)
    (hearing : HearingChange) : Type 0 where
  pub script : List ℕ
  pub given : Gives source.left_old script source.left_new
  pub met : Bool
  pub read : MatchBool met (MeetsEnd source) (source.failures_new ≡ source.failures_old)
  pub done : List Piece
  pub rest : List Piece
  pub parts : answered met script ≡ done ++ rest
  pub first : (more : List ℕ) → (IsTrue met → more ≡ []) → IsBeginning done (statements (script ++ more))
  pub answers : List Answer
  pub state : State
  pub ran : RunBy M.answering s done answers state
  pub stands : after state
  pub heard : Hears hearing.heard_old (notes_of (placed_statements script) answers) hearing.heard_new
  pub text : List ℕ
  pub reached : CutsLastIn M (placed_statements script) answers text
      ⊎ FailsFlush M sink.flushes_fail rest (placed_statements script) answers text
  pub written : Appends sink.held_old text sink.held_new
  pub cause : HasFailed sink.failures_old sink.failures_new

-- the outcome of a run in this manner by its result: the state that the responder represented, the states that it
-- represents afterwards, and the answers that the form has then written
abbrev pub RunsIn : Manner → State → Standing → Written → SourceChange → SinkChange → HearingChange
    → Result Summary Fault → Type 0
RunsIn M s after form source sink hearing (Ok summary) = MatchBool (stops M.bail summary)
    (RunsToRefusal M s after form source sink hearing summary)
    (RunsWholeIn M s after form source sink hearing summary)
RunsIn M s after form source sink hearing (Err Read) = StopsReadingIn M s after form source sink hearing
RunsIn M s after form source sink hearing (Err Write) = StopsWritingIn M s after source sink hearing
RunsIn M s after form source sink hearing (Err Memory) = NothingRun M.answering s after source sink hearing
