-- The laws about runs of the reference model, for a run on an engine over a source and a sink.
use Rattle.std.specs.Prelude.{◌≡◌, List, map, Bool, true, false, MatchBool, Result, Ok, Err}
use Rattle.tql_spec.specs.Answer.{Answer, Replied}
use Rattle.tql_spec.specs.HorizonLaws.{RunsWithout, other_pieces, other_replies}
use Rattle.tql_spec.specs.Machine.{State, Reply}
use Rattle.tql_spec.specs.Reached.{IsInOrder}
use Rattle.tql_spec.specs.Script.{Piece}
use Rattle.tql_points.specs.PointRun.{AgreesBehind}
use Rattle.tql_run.specs.Ending.{Responds}
use Rattle.tql_run.specs.Hearing.{HearingChange}
use Rattle.tql_run.specs.Responding.{Standing}
use Rattle.tql_run.specs.Runs.{SourceChange, SinkChange, NothingRun, answered}
use Rattle.tql_run.specs.RunsIn.{manner, RunsWholeIn, RunsToRefusal, StopsReadingIn, StopsWritingIn, stops}
use Rattle.tql_run.specs.Texts.{Style, Written}
use Rattle.tql_run.specs.declared.runner.Summary.{Summary}
use Rattle.tql_run.specs.declared.runner.Fault.{Fault}
use Rattle.tql_run.specs.declared.runner.Fault.TheVariants.{Read, Write, Memory}
use Rattle.tql_engine.specs.ReaderRuns.{ReadsStably}

-- The answers to these pieces are replies, and agree with the reference models of all points. Each READ has the reply
-- that its query would have had when the reader was opened. Without the pieces that pruned, or were refused for the
-- horizon, all others are answered the same.
pub record Agrees (s : State) (pieces : List Piece) (answers : List Answer) (new : State) : Type 0 where
  pub replies : List Reply
  pub all : answers ≡ map Replied replies
  pub points : AgreesBehind s pieces replies new
  pub readers : ReadsStably s pieces replies
  pub unseen : IsInOrder s → RunsWithout s (other_pieces pieces replies) (other_replies replies) new

-- by the result of a run in this style, which stops at a refusal or not: the laws for the pieces that ran, in a whole
-- run or a stopped one; else nothing ran
abbrev pub RunsAgreeing : Style → (bail : Bool) → State → Standing → Written → SourceChange → SinkChange
    → HearingChange → Result Summary Fault → Type 0
RunsAgreeing style bail s after form source sink hearing (Ok summary) = MatchBool (stops bail summary)
    ((r : RunsToRefusal (manner Responds style bail) s after form source sink hearing summary)
    × Agrees s r.done r.answers r.state)
    ((r : RunsWholeIn (manner Responds style bail) s after form source sink hearing summary)
    × Agrees s (answered true r.script) r.answers r.state)
RunsAgreeing style bail s after form source sink hearing (Err Read) =
    (r : StopsReadingIn (manner Responds style bail) s after form source sink hearing)
    × Agrees s (answered false r.script) r.answers r.state
RunsAgreeing style bail s after form source sink hearing (Err Write) =
    (r : StopsWritingIn (manner Responds style bail) s after source sink hearing)
    × Agrees s r.done r.answers r.state
RunsAgreeing style bail s after form source sink hearing (Err Memory) =
    NothingRun Responds s after source sink hearing
