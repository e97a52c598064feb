use Rattle.tql_run.specs.Kept.{KeepsFrom}
use Rattle.tql_run.specs.Runs.{source_change}
use Rattle.tql_run.specs.RunsIn.{manner}
use Rattle.tql_run.specs.Texts.{style_after}
use Rattle.tql_run.specs.Writing.{shown}
use Rattle.tql_run.proofs.Conversing.{Converses}
use Rattle.tql_run.proofs.runner.converse.Given as goal

abbrev pub invariant-loop-pull : goal.invariant-loop-pull
invariant-loop-pull g l = record {
  run : Converses (λ before. manner g.R.Responder.answering (style_after before g.F.Form.texts g.F.Form.reported)
      l.fn.bail)
      (g.R.Responder.stands l.fn.responder)
      (g.F.Form.wrote l.fn.form) l._pull l.script
      (g.R.Responder.stands l.responder) (g.F.Form.wrote l.form) l.all
      (source_change g.I.Input.left g.I.Input.failures g.I.Input.ended l.fn.source l.source)
      (shown g.O.Sink.written g.O.Sink.failures g.L.Listener.heard l.fn.sink l.fn.listener)
      (shown g.O.Sink.written g.O.Sink.failures g.L.Listener.heard l.sink l.listener);
  kept : KeepsFrom g.R.Responder.answering l.script (g.R.Responder.stands l.fn.responder)
      (g.R.Responder.stands l.responder) (g.O.Sink.kept l.fn.sink) (g.O.Sink.kept l.sink);
}
