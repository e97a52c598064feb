use Rattle.std.proofs.Common.{◌≡◌, ℕ, ap, arith, length, refl}
use Rattle.tql_result.proofs.Pushing.{step, stop, as_text, pushed_whole, sent_all}
use Rattle.tql_result_box.specs.Box.{times}
use Rattle.tql_result_box.proofs.Columns.{times_more}
use Rattle.tql_result_box.proofs.lines.push_times.Goals as goal

pub returns-in_err-push_all : goal.returns-in_err-push_all
returns-in_err-push_all g c =
    stop _ _ c.from_residual.ensures.0 c.each.invariant (times_more c.each.left c.args.piece.now c.each-test.true)
    (as_text c.as_bytes.ensures.value c.in_err-push_all.ensures)

pub each-preserved : goal.each-preserved
each-preserved g c =
    step _ c.each.invariant (times_more c.each.left c.args.piece.now c.each-test.true)
    (as_text c.as_bytes.ensures.value c.in_ok-push_all.ensures)

pub returns : goal.returns
returns g c =
    let none : c.each.left ≡ 0 = omega arith in
    pushed_whole _ refl
    (sent_all _ (ap (λ (k : ℕ). length (times k c.args.piece.now)) none) c.each.invariant)
