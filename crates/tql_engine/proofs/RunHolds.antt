-- Keys and references hold at every point after each run, if they held before it.
use Rattle.std.proofs.Common.{subst, sym, ℕ, List, [], ◌∷◌, Ok, Err}
use Rattle.std.proofs.Common.{true, false}
use Rattle.std.specs.Prelude.{Result, Bool, MatchBool}
use Rattle.tql_spec.specs.Answer.{Answer, Replied, Accepted}
use Rattle.tql_spec.specs.AtPoints.{HoldAtPoints}
use Rattle.tql_spec.specs.Machine.{State}
use Rattle.tql_spec.specs.Run.{RunBy}
use Rattle.tql_spec.specs.Script.{Piece, statements}
use Rattle.tql_spec.proofs.AtPoints.{runs_keep_points}
use Rattle.tql_run.specs.Hearing.{HearingChange}
use Rattle.tql_run.specs.Runs.{SourceChange, SinkChange}
use Rattle.tql_run.specs.RunsIn.{RunsIn, RunsToRefusal, RunsWholeIn, manner, stops}
use Rattle.tql_run.specs.Texts.{Style, Written}
use Rattle.tql_run.specs.declared.runner.Summary.{Summary}
use Rattle.tql_run.specs.declared.runner.Fault.{Fault}
use Rattle.tql_run.specs.declared.runner.Fault.TheVariants.{Read, Write, Memory}
use Rattle.tql_engine.specs.Bytes.{RunsBytes}
use Rattle.tql_run.specs.Ending.{Responds}
use Rattle.tql_engine_step.specs.HoldPoints.{HoldsFor}
use Rattle.tql_engine_state.specs.Stands.{EngineModel, StandsFor}
use Rattle.tql_engine_step.proofs.HoldPoints.{keeps_one}

-- a list of replies
keeps_all : (old new : State) (pieces : List Piece) (answers : List Answer) → HoldAtPoints old
    → RunBy Responds old pieces answers new → HoldAtPoints new
keeps_all old new [] [] h r = subst HoldAtPoints (sym r) h
keeps_all old new (p ∷ ps) (Replied x ∷ xs) h (mid, a, rest) =
    keeps_all mid new ps xs (keeps_one old mid p x h a.0) rest
keeps_all old new (p ∷ ps) (Accepted ∷ xs) h (mid, a, rest) = absurd a
keeps_all old new [] (x ∷ xs) h r = absurd r
keeps_all old new (p ∷ ps) [] h r = absurd r

-- a run in a form
pub run_in_holds : (style : Style) (bail : Bool) (new : EngineModel) (s : State) (form : Written)
    (source : SourceChange) (sink : SinkChange) (hearing : HearingChange) (result : Result Summary Fault)
    → HoldAtPoints s
    → RunsIn (manner Responds style bail) s (StandsFor new) form source sink hearing result
    → RunsIn (manner Responds style bail) s (HoldsFor new) form source sink hearing result
run_in_holds style bail new s form source sink hearing (Ok summary) h r = by_case (stops bail summary) r
  where
    by_case : (b : Bool)
        → MatchBool b (RunsToRefusal (manner Responds style bail) s (StandsFor new) form source sink hearing summary)
        (RunsWholeIn (manner Responds style bail) s (StandsFor new) form source sink hearing summary)
        → MatchBool b (RunsToRefusal (manner Responds style bail) s (HoldsFor new) form source sink hearing summary)
        (RunsWholeIn (manner Responds style bail) s (HoldsFor new) form source sink hearing summary)
    by_case true r = record {
      script = r.script;
      given = r.given;
      met = r.met;
      read = r.read;
      done = r.done;
      rest = r.rest;
      parts = r.parts;
      first = r.first;
      answers = r.answers;
      refused = r.refused;
      state = r.state;
      ran = r.ran;
      stands = record { stands = r.stands; holds = keeps_all s r.state r.done r.answers h r.ran };
      heard = r.heard;
      wrote = r.wrote;
      text = r.text;
      texts = r.texts;
      written = r.written;
      counts = r.counts;
      writes = r.writes;
      flushed = r.flushed;
      pulled = r.pulled;
    }
    by_case false r = record {
      script = r.script;
      given = r.given;
      ended = r.ended;
      answers = r.answers;
      goes_on = r.goes_on;
      state = r.state;
      ran = r.ran;
      stands = record { stands = r.stands; holds = keeps_all s r.state _ r.answers h r.ran };
      heard = r.heard;
      wrote = r.wrote;
      text = r.text;
      texts = r.texts;
      written = r.written;
      counts = r.counts;
      writes = r.writes;
      flushed = r.flushed;
    }
run_in_holds style bail new s form source sink hearing (Err Read) h r = record {
  script = r.script;
  given = r.given;
  cut = r.cut;
  answers = r.answers;
  goes_on = r.goes_on;
  state = r.state;
  ran = r.ran;
  stands = record { stands = r.stands; holds = keeps_all s r.state _ r.answers h r.ran };
  heard = r.heard;
  wrote = r.wrote;
  text = r.text;
  texts = r.texts;
  written = r.written;
  writes = r.writes;
  flushed = r.flushed;
}
run_in_holds style bail new s form source sink hearing (Err Write) h r = record {
  script = r.script;
  given = r.given;
  met = r.met;
  read = r.read;
  done = r.done;
  rest = r.rest;
  parts = r.parts;
  first = r.first;
  answers = r.answers;
  state = r.state;
  ran = r.ran;
  stands = record { stands = r.stands; holds = keeps_all s r.state r.done r.answers h r.ran };
  heard = r.heard;
  text = r.text;
  reached = r.reached;
  written = r.written;
  cause = r.cause;
}
run_in_holds style bail new s form source sink hearing (Err Memory) h r = record {
  left = r.left;
  reads = r.reads;
  stands = record { stands = r.stands; holds = h };
  heard = r.heard;
  written = r.written;
  writes = r.writes;
}

-- a run over bytes in memory
pub bytes_hold : (new : EngineModel) (s : State) (script before after : List ℕ) (result : Result Summary Fault)
    → HoldAtPoints s → RunsBytes s (StandsFor new) script before after result
    → RunsBytes s (HoldsFor new) script before after result
bytes_hold new s script before after (Ok summary) h w = record {
  state = w.state;
  stands = record {
    stands = w.stands;
    holds = runs_keep_points s w.state (statements script) w.writes.0 h w.writes.1;
  };
  pushed = w.pushed;
  writes = w.writes;
  ends = w.ends;
  behind = w.behind;
  counts = w.counts;
}
bytes_hold new s script before after (Err Write) h w = record {
  done = w.done;
  rest = w.rest;
  parts = w.parts;
  replies = w.replies;
  state = w.state;
  ran = w.ran;
  ends = w.ends;
  stands = record { stands = w.stands; holds = runs_keep_points s w.state w.done w.replies h w.ran };
  pushed = w.pushed;
  cut = w.cut;
  behind = w.behind;
}
bytes_hold new s script before after (Err Memory) h w = (w.0, record { stands = w.1; holds = h }, w.2)
bytes_hold new s script before after (Err Read) h w = (w.0, record { stands = w.1; holds = h }, w.2)
