use Rattle.std.proofs.Common.{List, ℕ, false, refl, sym, ap, ◌∙◌, string_bytes}
use Rattle.std.specs.List.{concat}
use Rattle.tql_spec.specs.Datum.{Text}
use Rattle.tql_result.proofs.Pushing.{step, stop, pushed_whole}
use Rattle.tql_result_box.specs.Box.{boxed, heading_box}
use Rattle.tql_result_box.specs.declared.layout.Layout.{Layout}
use Rattle.tql_result_box.proofs.Columns.{laid_next, laid_end, sent_as}
use Rattle.tql_result_box.proofs.lines.push_names.Goals as goal

pub returns-in_err-push_boxed : goal.returns-in_err-push_boxed
returns-in_err-push_boxed g c =
    stop _ _ c.from_residual.ensures.0 c.loop-name.invariant
    (laid_next heading_box string_bytes c.loop-name.behind.now c.next_layout.result.1.now c.args.names.now
    c.loop-name.name-index c.name-item.result _ c.loop-name-test.true c.name-item.is
    c.next_layout.ensures.others
    (ap (λ (l : Layout). heading_box l (string_bytes c.name-item.result)) (sym c.next_layout.ensures.first)
    ∙ ap (λ (t : List ℕ). boxed c.next_layout.result.0.width false (Text t)) (sym c.as_str.ensures.value)))
    c.in_err-push_boxed.ensures

pub loop-name-preserved : goal.loop-name-preserved
loop-name-preserved g c =
    step _ c.loop-name.invariant
    (laid_next heading_box string_bytes c.loop-name.behind.now c.next_layout.result.1.now c.args.names.now
    c.loop-name.name-index c.name-item.result _ c.loop-name-test.true c.name-item.is
    c.next_layout.ensures.others
    (ap (λ (l : Layout). heading_box l (string_bytes c.name-item.result)) (sym c.next_layout.ensures.first)
    ∙ ap (λ (t : List ℕ). boxed c.next_layout.result.0.width false (Text t)) (sym c.as_str.ensures.value)))
    c.in_ok-push_boxed.ensures

pub returns : goal.returns
returns g c =
    pushed_whole _ refl
    (sent_as
    (ap concat
    (laid_end heading_box string_bytes c.loop-name.behind.now c.args.names.now c.loop-name.name-index
    c.loop-name-test.false))
    c.loop-name.invariant)
