use Rattle.std.proofs.Common.{◌≡◌, ◌<◌, ◌≤◌, ◌+◌, rules, tests, refl, sym, ap, ◌∙◌, Bool, true, false, length, drop}
use Rattle.std.specs.Prelude.{◌&&◌}
use Rattle.std.specs.List.{list_all}
use Rattle.tql_spec.specs.Constraint.{key_holds, shown_rows}
use Rattle.tql_spec.specs.Datum.{Row}
use Rattle.tql_expr.specs.Shown.{shown_by}
use Rattle.tql_catalog.specs.Definitions.{key_of}
use Rattle.tql_key_rows.specs.Asked.{new_rows}
use Rattle.tql_key_clashes.specs.Named.{staying}
use Rattle.tql_key_clashes.specs.Free.{is_free}
use Rattle.tql_key_rows.proofs.Stepping.{new_row, left_decides, left_none}
use Rattle.tql_key_clashes.proofs.Freely.{key_after}
use Rattle.tql_key_clashes.proofs.keys.holds_after.Goals as goal

pub returns-then-not-apart : goal.returns-then-not-apart
returns-then-not-apart g c rows gone of judged h =
    let d = c.args.table.now.definition in
    let k = key_of c.args.key.now in
    let added = c.args.change.now.added.now in
    let apart : c.in_ok-apart.apart ≡ false = search (rules, tests) in
    let told : c.in_ok-apart.apart ≡ key_holds d (new_rows d c.args.change.now.moment added) k =
    search (rules, tests) in
    key_after d k c.args.change.now.moment gone added rows false _ h (sym apart ∙ told) refl

pub returns-then-not-branch : goal.returns-then-not-branch
returns-then-not-branch g c rows gone of judged h =
    let d = c.args.table.now.definition in
    let k = key_of c.args.key.now in
    let m = c.args.change.now.moment in
    let added = c.args.change.now.added.now in
    let i = c.loop-row.row-index in
    let F : Row → Bool = is_free d k (shown_rows d (staying gone rows)) in
    let apart : c.in_ok-apart.apart ≡ true = search (rules, tests) in
    let told : c.in_ok-apart.apart ≡ key_holds d (new_rows d m added) k = search (rules, tests) in
    let inside : i < length added = search rules in
    let row : shown_by c.current_row-new.result ≡ new_row d m c.row-item.result = search (rules, tests) in
    let free : c.in_ok-is_free.field-0 ≡ F (shown_by c.current_row-new.result) = search (rules, tests) in
    let left = left_decides F d m added i c.row-item.result (shown_by c.current_row-new.result) c.in_ok-is_free.field-0
    inside c.row-item.is row free in
    let fails : c.in_ok-is_free.field-0 ≡ false = search (rules, tests) in
    key_after d k m gone added rows true false h (sym apart ∙ told)
    (sym (sym (c.loop-row.invariant rows gone of judged) ∙ left
    ∙ ap (λ b. b && list_all F (new_rows d m (drop (i + 1) added))) fails))

pub loop-row-preserved : goal.loop-row-preserved
loop-row-preserved g c rows gone of judged =
    let d = c.args.table.now.definition in
    let k = key_of c.args.key.now in
    let m = c.args.change.now.moment in
    let added = c.args.change.now.added.now in
    let i = c.loop-row.row-index in
    let F : Row → Bool = is_free d k (shown_rows d (staying gone rows)) in
    let inside : i < length added = search rules in
    let row : shown_by c.current_row-new.result ≡ new_row d m c.row-item.result = search (rules, tests) in
    let free : c.in_ok-is_free.field-0 ≡ F (shown_by c.current_row-new.result) = search (rules, tests) in
    let left = left_decides F d m added i c.row-item.result (shown_by c.current_row-new.result) c.in_ok-is_free.field-0
    inside c.row-item.is row free in
    let holds : c.in_ok-is_free.field-0 ≡ true = search (rules, tests) in
    sym (left ∙ ap (λ b. b && list_all F (new_rows d m (drop (i + 1) added))) holds)
    ∙ c.loop-row.invariant rows gone of judged

pub returns : goal.returns
returns g c rows gone of judged h =
    let d = c.args.table.now.definition in
    let k = key_of c.args.key.now in
    let m = c.args.change.now.moment in
    let added = c.args.change.now.added.now in
    let i = c.loop-row.row-index in
    let F : Row → Bool = is_free d k (shown_rows d (staying gone rows)) in
    let apart : c.in_ok-apart.apart ≡ true = search (rules, tests) in
    let told : c.in_ok-apart.apart ≡ key_holds d (new_rows d m added) k = search (rules, tests) in
    let past : length added ≤ i = search rules in
    key_after d k m gone added rows true true h (sym apart ∙ told)
    (sym (left_none F d m added i past) ∙ c.loop-row.invariant rows gone of judged)
