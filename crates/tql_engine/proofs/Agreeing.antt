-- A run over a source and a sink satisfies the laws about runs of the reference model.
use Rattle.std.proofs.Common.{List, true, false, Ok, Err}
use Rattle.std.specs.Prelude.{Bool, MatchBool, Result}
use Rattle.tql_spec.specs.Answer.{Answer}
use Rattle.tql_spec.specs.HorizonLaws.{PrunesAreUnseen}
use Rattle.tql_spec.specs.Machine.{State}
use Rattle.tql_spec.specs.Run.{RunBy}
use Rattle.tql_spec.specs.Script.{Piece}
use Rattle.tql_points.proofs.PointRuns.{runs_agree_behind}
use Rattle.tql_run.specs.Ending.{Responds}
use Rattle.tql_run.specs.Hearing.{HearingChange}
use Rattle.tql_run.specs.Responding.{Standing}
use Rattle.tql_run.specs.Runs.{SourceChange, SinkChange, answered}
use Rattle.tql_run.specs.RunsIn.{RunsIn, manner, RunsWholeIn, RunsToRefusal, stops}
use Rattle.tql_run.specs.Texts.{Style, Written}
use Rattle.tql_run.specs.declared.runner.Summary.{Summary}
use Rattle.tql_run.specs.declared.runner.Fault.{Fault}
use Rattle.tql_run.specs.declared.runner.Fault.TheVariants.{Read, Write, Memory}
use Rattle.tql_engine.specs.ReaderRuns.{RunsReadStably}
use Rattle.tql_engine.specs.Agreeing.{Agrees, RunsAgreeing}
use Rattle.tql_engine.proofs.Bytes.{replying}

module _ (prunes : PrunesAreUnseen) (reads : RunsReadStably) where
  agreeing : (s new : State) (pieces : List Piece) (answers : List Answer) → RunBy Responds s pieces answers new
      → Agrees s pieces answers new
  agreeing s new pieces answers ran =
      let r = replying s pieces answers new ran in
      record {
        replies = r.replies;
        all = r.all;
        points = runs_agree_behind s pieces r.replies new r.ran;
        readers = reads s new pieces r.replies r.ran;
        unseen = λ ordered. prunes s new pieces r.replies ordered r.ran;
      }

  pub runs_agreeing : (style : Style) (bail : Bool) (s : State) (after : Standing) (form : Written)
      (source : SourceChange) (sink : SinkChange) (hearing : HearingChange) (result : Result Summary Fault)
      → RunsIn (manner Responds style bail) s after form source sink hearing result
      → RunsAgreeing style bail s after form source sink hearing result
  runs_agreeing style bail s after form source sink hearing (Ok summary) r = by_case (stops bail summary) r
    where
      by_case : (b : Bool)
          → MatchBool b (RunsToRefusal (manner Responds style bail) s after form source sink hearing summary)
          (RunsWholeIn (manner Responds style bail) s after form source sink hearing summary)
          → MatchBool b
          ((r : RunsToRefusal (manner Responds style bail) s after form source sink hearing summary)
          × Agrees s r.done r.answers r.state)
          ((r : RunsWholeIn (manner Responds style bail) s after form source sink hearing summary)
          × Agrees s (answered true r.script) r.answers r.state)
      by_case true r = (r, agreeing s r.state r.done r.answers r.ran)
      by_case false r = (r, agreeing s r.state (answered true r.script) r.answers r.ran)
  runs_agreeing style bail s after form source sink hearing (Err Read) r =
      (r, agreeing s r.state (answered false r.script) r.answers r.ran)
  runs_agreeing style bail s after form source sink hearing (Err Write) r =
      (r, agreeing s r.state r.done r.answers r.ran)
  runs_agreeing style bail s after form source sink hearing (Err Memory) r = r
