use Rattle.std.proofs.Common.{[], length, take, sym, refl, arith}
use Rattle.std.proofs.lemmas.List.{append-nil, take-append-drop, take_rest, length-drop, length-take}
use Rattle.std.proofs.lemmas.Bool.Decides.{nat_tests}
use Rattle.tql_result.proofs.Pushing.{sent_none, sent_more, pushed_whole, pushed_cut, beginning_none, failed_at_none}
use Rattle.tql_result.proofs.Pushing.{counted_at_some, taken_none, sent_all}
use Rattle.tql_result.proofs.pieces.push_all.Goals as goal

pub loop-rest-init : goal.loop-rest-init
loop-rest-init g c = sent_none _ _ _

pub returns-in_err-taken : goal.returns-in_err-taken
returns-in_err-taken g c =
    pushed_cut _ c.loop-rest.rest.now [] c.from_residual.ensures.0 c.loop-rest.invariant
    (sym (append-nil c.loop-rest.rest.now))
    (beginning_none c.loop-rest.rest.now (grind (arith, nat_tests)) c.in_err-taken.ensures.kept)
    c.in_err-taken.ensures.counted c.in_err-taken.ensures.texts

pub returns-then-taken-eq0 : goal.returns-then-taken-eq0
returns-then-taken-eq0 g c =
    pushed_cut _ c.loop-rest.rest.now [] refl c.loop-rest.invariant (sym (append-nil c.loop-rest.rest.now))
    (beginning_none c.loop-rest.rest.now (grind (arith, nat_tests))
    (taken_none _ c.loop-rest.rest.now c.if-taken-eq0.true c.in_ok-taken.ensures.taken))
    (failed_at_none _ (length c.loop-rest.rest.now) c.if-taken-eq0.true (grind (arith, nat_tests))
    c.in_ok-taken.ensures.counted)
    c.in_ok-taken.ensures.texts

pub loop-rest-smaller : goal.loop-rest-smaller
loop-rest-smaller g c = simp (length-take, length-drop) (grind (arith, nat_tests))

pub loop-rest-preserved : goal.loop-rest-preserved
loop-rest-preserved g c =
    sent_more (take c.in_ok-taken.taken c.loop-rest.rest.now) _ c.loop-rest.invariant
    (rw take_rest (sym (take-append-drop _ _)))
    c.in_ok-taken.ensures.taken
    (counted_at_some _ (length c.loop-rest.rest.now) c.if-taken-eq0.false c.in_ok-taken.ensures.counted)
    c.in_ok-taken.ensures.texts

pub returns : goal.returns
returns g c = pushed_whole _ refl (sent_all c.loop-rest.rest.now (grind (arith, nat_tests)) c.loop-rest.invariant)
