use Rattle.std.proofs.Common.{◌≡◌, ◌<◌, ◌≤◌, ◌+◌, rules, tests, sym, ap, ◌∙◌, Bool, true, false, length, drop}
use Rattle.std.specs.Prelude.{◌&&◌}
use Rattle.std.specs.List.{list_all}
use Rattle.tql_spec.specs.Constraint.{is_met, shown_rows}
use Rattle.tql_spec.specs.Datum.{Row}
use Rattle.tql_expr.specs.Shown.{shown_by}
use Rattle.tql_catalog.specs.Definitions.{reference_of}
use Rattle.tql_key_rows.specs.Asked.{new_rows}
use Rattle.tql_key_rows.proofs.Stepping.{new_row, left_decides, left_none}
use Rattle.tql_keys.proofs.Children.{child_after}
use Rattle.tql_keys.proofs.references.child_holds_after.Goals as goal

pub returns-then-not-branch : goal.returns-then-not-branch
returns-then-not-branch g c parents rows gone of h =
    let d = c.args.child.now in
    let p = c.args.parent.now.definition in
    let f = reference_of c.args.reference.now in
    let m = c.args.change.now.moment in
    let added = c.args.change.now.added.now in
    let i = c.loop-row.row-index in
    let F : Row → Bool = is_met d p f (shown_rows p parents) in
    let inside : i < length added = search rules in
    let row : shown_by c.current_row-new.result ≡ new_row d m c.row-item.result = search (rules, tests) in
    let met : c.in_ok-is_met_now.field-0 ≡ F (shown_by c.current_row-new.result) = search (rules, tests) in
    let left = left_decides F d m added i c.row-item.result (shown_by c.current_row-new.result)
    c.in_ok-is_met_now.field-0 inside c.row-item.is row met in
    let fails : c.in_ok-is_met_now.field-0 ≡ false = search (rules, tests) in
    child_after d p f parents m gone added rows false h
    (sym (sym (c.loop-row.invariant parents of) ∙ left
    ∙ ap (λ b. b && list_all F (new_rows d m (drop (i + 1) added))) fails))

pub loop-row-preserved : goal.loop-row-preserved
loop-row-preserved g c parents of =
    let d = c.args.child.now in
    let p = c.args.parent.now.definition in
    let f = reference_of c.args.reference.now in
    let m = c.args.change.now.moment in
    let added = c.args.change.now.added.now in
    let i = c.loop-row.row-index in
    let F : Row → Bool = is_met d p f (shown_rows p parents) in
    let inside : i < length added = search rules in
    let row : shown_by c.current_row-new.result ≡ new_row d m c.row-item.result = search (rules, tests) in
    let met : c.in_ok-is_met_now.field-0 ≡ F (shown_by c.current_row-new.result) = search (rules, tests) in
    let left = left_decides F d m added i c.row-item.result (shown_by c.current_row-new.result)
    c.in_ok-is_met_now.field-0 inside c.row-item.is row met in
    let holds : c.in_ok-is_met_now.field-0 ≡ true = search (rules, tests) in
    sym (left ∙ ap (λ b. b && list_all F (new_rows d m (drop (i + 1) added))) holds)
    ∙ c.loop-row.invariant parents of

pub returns : goal.returns
returns g c parents rows gone of h =
    let d = c.args.child.now in
    let p = c.args.parent.now.definition in
    let f = reference_of c.args.reference.now in
    let m = c.args.change.now.moment in
    let added = c.args.change.now.added.now in
    let i = c.loop-row.row-index in
    let F : Row → Bool = is_met d p f (shown_rows p parents) in
    let past : length added ≤ i = search rules in
    child_after d p f parents m gone added rows true h
    (sym (left_none F d m added i past) ∙ c.loop-row.invariant parents of)
