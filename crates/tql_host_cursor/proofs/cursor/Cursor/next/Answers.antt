use Rattle.std.proofs.Common.{◌≡◌, Option, Some, sym, ap, subst, ◌∙◌}
use Rattle.tql_splitter.specs.Stream.{Stream}
use Rattle.tql_result.specs.declared.answer.Answer.{Answer}
use Rattle.tql_run.specs.Writing.{AnswersNext}
use Rattle.tql_host_cursor.specs.Cursors.{CursorModel}
use Rattle.tql_host_cursor.specs.Moves.{AnswersFrom, AnswersScript}
use Rattle.tql_host_cursor.proofs.cursor.Cursor.next.Goals as goal

pub returns-in-Some-clause-answered : goal.returns-in-Some-clause-answered
returns-in-Some-clause-answered g c =
    let A = g.R.Responder.answering in
    let before = g.R.Responder.stands c.args.responder.now in
    let after = g.R.Responder.stands c.next_answer-answer.new.responder in
    let old = c.in-Some.session in let to = c.next_answer-answer.new.self in let new = c.show.new.self in
    let was : c.args.self.now.script ≡ Some old =
    sym (ap (λ (x : CursorModel). x.script) c.self.view_is
    ∙ ap (λ (x : CursorModel). x.script) c.forget.ensures) ∙ c.in-Some.is in
    let done : AnswersFrom A old new before after = record {
      to = to;
      script = ap (λ (x : CursorModel). x.script) c.show.ensures.shown;
      line = ap (λ (x : CursorModel). x.line) c.show.ensures.shown ∙ c.line-line.ensures;
      answers = subst (λ (a : Option Answer). AnswersNext A a old to before after)
          (sym (ap (λ (x : CursorModel). x.answer) c.show.ensures.shown)) c.next_answer-answer.ensures;
    } in
    subst (λ (o : Option Stream). AnswersScript A o new before after) (sym was) done
