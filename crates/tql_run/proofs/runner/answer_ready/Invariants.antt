use Rattle.std.proofs.Common.{◌≡◌, ◌≤◌, ◌<◌, ◌+◌, ℕ, List, length}
use Rattle.std.specs.Prelude.{IsTrue}
use Rattle.tql_spec.specs.Answer.{Answer}
use Rattle.tql_spec.specs.Machine.{State}
use Rattle.tql_splitter.specs.Stream.{to_do}
use Rattle.tql_run.specs.Kept.{KeepsOn}
use Rattle.tql_run.specs.Runs.{most_bytes}
use Rattle.tql_run.specs.RunsIn.{manner}
use Rattle.tql_run.specs.Texts.{style_after, written_after}
use Rattle.tql_run.specs.Writing.{Shown, WroteTo, shown}
use Rattle.tql_run.proofs.runner.answer_ready.Given as goal

abbrev pub invariant-loop-answer : goal.invariant-loop-answer
invariant-loop-answer g l = record {
  wrote : (before : List Answer) (s : State) (script : List ℕ) (from : Shown) → length script < most_bytes
      → WroteTo (manner g.R.Responder.answering (style_after before g.F.Form.texts g.F.Form.reported) l.fn.bail) s
      script
      l.fn.splitter (g.R.Responder.stands l.fn.responder) (written_after before (g.F.Form.wrote l.fn.form)) l.fn.summary
      from (shown g.O.Sink.written g.O.Sink.failures g.L.Listener.heard l.fn.sink l.fn.listener)
      → WroteTo (manner g.R.Responder.answering (style_after before g.F.Form.texts g.F.Form.reported) l.fn.bail) s
      script
      l.splitter (g.R.Responder.stands l.responder) (written_after before (g.F.Form.wrote l.form)) l.summary
      from (shown g.O.Sink.written g.O.Sink.failures g.L.Listener.heard l.sink l.listener);
  ended : l.splitter.ended ≡ l.fn.splitter.ended;
  room : l.summary.statements + to_do l.splitter ≤ l.fn.summary.statements + to_do l.fn.splitter;
  grown : l.summary.refused + l.fn.summary.statements ≤ l.summary.statements + l.fn.summary.refused;
  fewer : l.summary.refused ≤ l.summary.statements;
  going : IsTrue l.fn.bail → l.summary.refused ≡ 0;
  kept : KeepsOn g.R.Responder.answering l.fn.splitter l.splitter (g.R.Responder.stands l.fn.responder)
      (g.R.Responder.stands l.responder) (g.O.Sink.kept l.fn.sink) (g.O.Sink.kept l.sink);
}

abbrev pub decreases-loop-answer : goal.decreases-loop-answer
decreases-loop-answer g l = to_do l.splitter
