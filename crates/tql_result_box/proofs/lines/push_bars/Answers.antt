use Rattle.std.proofs.Common.{◌++◌, refl, sym, ap, map, string_bytes}
use Rattle.tql_result.proofs.Pushing.{step, stop, pushed_whole, sent_none}
use Rattle.tql_result_box.specs.Box.{bar, laid}
use Rattle.tql_result_box.specs.declared.layout.Layout.{Layout}
use Rattle.tql_result_box.proofs.Columns.{joined_after, joined_after_none, joined_next, laid_end, sent_as, some_of}
use Rattle.tql_result_box.proofs.lines.push_bars.Goals as goal

pub columns-init : goal.columns-init
columns-init g c =
    sent_as
    (sym (joined_after_none c.args.cross.now
    (laid (λ l h. bar l.width) c.args.layouts.now (map string_bytes c.args.names.now))))
    (sent_none _ _ _)

pub returns-in_err-push_next_bar : goal.returns-in_err-push_next_bar
returns-in_err-push_next_bar g c =
    stop _ _ c.from_residual.ensures.0 c.columns.invariant
    (joined_next (λ l h. bar l.width) string_bytes c.columns.front.now c.args.cross.now c.columns.behind.now
    c.next_layout.result.1.now c.args.names.now c.columns.index
    (some_of c.args.names.now c.columns.index c.columns-test.true)
    (c.columns.front.now ++ bar c.next_layout.result.0.width) c.columns-test.true
    c.next_layout.ensures.others
    (ap (λ (l : Layout). c.columns.front.now ++ bar l.width) (sym c.next_layout.ensures.first)))
    c.in_err-push_next_bar.ensures

pub columns-preserved : goal.columns-preserved
columns-preserved g c =
    step _ c.columns.invariant
    (joined_next (λ l h. bar l.width) string_bytes c.columns.front.now c.args.cross.now c.columns.behind.now
    c.next_layout.result.1.now c.args.names.now c.columns.index
    (some_of c.args.names.now c.columns.index c.columns-test.true)
    (c.columns.front.now ++ bar c.next_layout.result.0.width) c.columns-test.true
    c.next_layout.ensures.others
    (ap (λ (l : Layout). c.columns.front.now ++ bar l.width) (sym c.next_layout.ensures.first)))
    c.in_ok-push_next_bar.ensures

pub returns : goal.returns
returns g c =
    pushed_whole _ refl
    (sent_as
    (ap (joined_after c.columns.front.now c.args.cross.now)
    (laid_end (λ l h. bar l.width) string_bytes c.columns.behind.now c.args.names.now c.columns.index
    c.columns-test.false))
    c.columns.invariant)
