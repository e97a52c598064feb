use Rattle.std.proofs.Common.{refl, ◌∙◌, ap, sym, subst, arith, ◌≤◌}
use Rattle.tql_result.specs.Replies.{answer_of}
use Rattle.tql_run.specs.Texts.{style_after}
use Rattle.tql_run.specs.declared.runner.Summary.{Summary}
use Rattle.tql_run.proofs.Kept.{kept_first, kept_more, kept_same}
use Rattle.tql_run.proofs.OneMore.{came_to, came_from}
use Rattle.tql_run.proofs.Writing.{wrote_more, wrote_cut, wrote_stop, wrote_all, none_answered, still_fewer}
use Rattle.tql_run.proofs.Writing.{still_grown, ready_same}
use Rattle.tql_run.proofs.Writing.{goes_on, not_stopped, as_going, as_stop}
use Rattle.tql_run.proofs.runner.answer_ready.Goals as goal

pub loop-answer-init : goal.loop-answer-init
loop-answer-init g c = record {
  wrote = λ before s script from short t. t;
  ended = refl;
  room = omega arith;
  grown = omega arith;
  fewer = c.requires.fewer;
  going = c.requires.going;
  kept = kept_first _ _ _ _;
}

pub returns-in-Err-clause-answers : goal.returns-in-Err-clause-answers
returns-in-Err-clause-answers g c before s script from short t =
    let i = c.loop-answer.invariant in
    let style = style_after before g.F.Form.texts g.F.Form.reported in
    wrote_cut _ _ s script _ _ _ _ _ _ _ c.in-Some.answer _ _ _ c.line-line.result _ short i.going
    (i.wrote before s script from short t) c.in-Some.ensures.answers c.line-line.ensures c.report.ensures
    (came_from style c.in-Some.ensures.written c.in-Some.ensures.failures
    (came_to style c.in-Err.ensures (c.push-pushed.ensures.passes before)))

pub returns-in-Err-clause-kept : goal.returns-in-Err-clause-kept
returns-in-Err-clause-kept g c =
    kept_same _ _ _ _ _ _ _ _
    (kept_more _ _ _ _ _ _ _ _ _ _ c.loop-answer.invariant.kept c.in-Some.ensures.kept) c.push-pushed.ensures.texts

pub returns-then-is_stopped-clause-answers : goal.returns-then-is_stopped-clause-answers
returns-then-is_stopped-clause-answers g c before s script from short t =
    let i = c.loop-answer.invariant in
    let style = style_after before g.F.Form.texts g.F.Form.reported in
    let stopped = sym c.is_stopped.ensures ∙ c.if-is_stopped.true in
    record {
      is = as_stop _ _ _ stopped
          (wrote_stop _ _ s script _ _ _ _ _ _ _ c.counted.result c.in-Some.answer _ _ _ c.line-line.result _ short
          i.going (i.wrote before s script from short t) c.in-Some.ensures.answers c.line-line.ensures
          c.report.ensures c.counted.ensures
          (came_from style c.in-Some.ensures.written c.in-Some.ensures.failures
          (came_to style c.in-Ok.ensures (c.push-pushed.ensures.passes before))) stopped);
    }

pub returns-then-is_stopped-clause-kept : goal.returns-then-is_stopped-clause-kept
returns-then-is_stopped-clause-kept g c =
    kept_same _ _ _ _ _ _ _ _
    (kept_more _ _ _ _ _ _ _ _ _ _ c.loop-answer.invariant.kept c.in-Some.ensures.kept) c.push-pushed.ensures.texts

pub loop-answer-preserved : goal.loop-answer-preserved
loop-answer-preserved g c =
    let i = c.loop-answer.invariant in
    record {
      wrote = λ before s script from short t.
          let style = style_after before g.F.Form.texts g.F.Form.reported in
          wrote_more _ _ s script _ _ _ _ _ _ _ c.counted.result c.in-Some.answer _ _ _ c.line-line.result _ short
          (i.wrote before s script from short t) c.in-Some.ensures.answers c.line-line.ensures c.report.ensures
          c.counted.ensures
          (came_from style c.in-Some.ensures.written c.in-Some.ensures.failures
          (came_to style c.in-Ok.ensures (c.push-pushed.ensures.passes before)));
      ended = c.in-Some.ensures.answers.one.ended ∙ i.ended;
      room = omega (
        arith,
        i.room,
        c.in-Some.ensures.answers.one.fewer,
        ap (λ (x : Summary). x.statements)
            c.counted.ensures,
      );
      grown = still_grown _ _ _ _ c.counted.ensures i.grown;
      fewer = subst (λ (x : Summary). x.refused ≤ x.statements) (sym c.counted.ensures)
          (still_fewer c.loop-answer.summary (answer_of c.in-Some.answer) i.fewer);
      going = goes_on c.args.bail c.counted.result (sym c.is_stopped.ensures ∙ c.if-is_stopped.false);
      kept = kept_same _ _ _ _ _ _ _ _ (kept_more _ _ _ _ _ _ _ _ _ _ i.kept c.in-Some.ensures.kept)
          c.push-pushed.ensures.texts;
    }

pub returns-clause-answers : goal.returns-clause-answers
returns-clause-answers g c before s script from short t =
    let i = c.loop-answer.invariant in
    let none = none_answered _ c.answer_next.result _ _ _ _ c.answer_next.ensures.answers c.in_default.not-Some in
    ready_same _ s script _ _ _ _ from _ _
    (record {
      is = as_going _ _ _ (not_stopped c.args.bail c.loop-answer.summary i.going)
          (wrote_all _ s script _ _ _ _ _ _ _ _ (i.wrote before s script from short t) none);
    })
    c.answer_next.ensures.written c.answer_next.ensures.failures refl

pub returns-clause-tallies : goal.returns-clause-tallies
returns-clause-tallies g c =
    let i = c.loop-answer.invariant in
    let n = none_answered _ c.answer_next.result _ _ _ _ c.answer_next.ensures.answers c.in_default.not-Some in
    record {
      ended = n.none.ended ∙ i.ended;
      room = omega (arith, i.room, n.none.no_more);
      grown = i.grown;
    }

pub returns-clause-kept : goal.returns-clause-kept
returns-clause-kept g c =
    kept_more _ _ _ _ _ _ _ _ _ _ c.loop-answer.invariant.kept c.answer_next.ensures.kept
