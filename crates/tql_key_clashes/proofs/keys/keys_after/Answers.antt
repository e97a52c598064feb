use Rattle.std.proofs.Common.{◌≡◌, ◌<◌, ◌≤◌, ◌+◌, rules, tests, sym, ap, ◌∙◌, Bool, true, false, length, drop}
use Rattle.std.specs.Prelude.{◌&&◌}
use Rattle.std.specs.List.{list_all}
use Rattle.tql_spec.specs.Constraint.{key_holds, shown_rows}
use Rattle.tql_spec.specs.Definition.{Key}
use Rattle.tql_catalog.specs.Defined.{is_key}
use Rattle.tql_catalog.specs.Definitions.{key_of}
use Rattle.tql_store.specs.Changes.{rows_after}
use Rattle.tql_key_rows.proofs.Stepping.{none_left}
use Rattle.tql_key_clashes.proofs.Positions.{part_in, parts_decide, parts_all}
use Rattle.tql_key_clashes.proofs.keys.keys_after.Goals as goal

pub key_after-requires-clause-columns : goal.key_after-requires-clause-columns
key_after-requires-clause-columns g c =
    let d = c.args.table.now.definition in
    let items = c.keys-key-items.result.now in
    let inside : c.loop-key.key-index < length items = search rules in
    part_in key_of (is_key d) d.keys items c.keys-key-items.ensures.keys c.loop-key.key-index c.key-item.result inside
    c.key-item.is c.keys-key-items.ensures.right.keys

pub returns-then-not-branch : goal.returns-then-not-branch
returns-then-not-branch g c rows gone of judged h =
    let d = c.args.table.now.definition in
    let items = c.keys-key-items.result.now in
    let i = c.loop-key.key-index in
    let k = c.key-item.result in
    let keys = c.keys-key-items.ensures.keys in
    let P : Key → Bool = key_holds d
    (shown_rows d (rows_after c.args.change.now.moment gone c.args.change.now.added.now rows)) in
    let inside : i < length items = search rules in
    let before = part_in key_of (key_holds d (shown_rows d rows)) d.keys items keys i k inside c.key-item.is h in
    let told : c.in_ok-key_after.field-0 ≡ P (key_of k) = c.in_ok-key_after.ensures rows gone of judged before in
    let left = parts_decide key_of P d.keys items keys i k c.in_ok-key_after.field-0 inside c.key-item.is told in
    let fails : c.in_ok-key_after.field-0 ≡ false = search (rules, tests) in
    sym (sym (parts_all key_of P d.keys items keys) ∙ sym (c.loop-key.invariant rows gone of judged h) ∙ left
    ∙ ap (λ b. b && list_all (λ x. P (key_of x)) (drop (i + 1) items)) fails)

pub loop-key-preserved : goal.loop-key-preserved
loop-key-preserved g c rows gone of judged h =
    let d = c.args.table.now.definition in
    let items = c.keys-key-items.result.now in
    let i = c.loop-key.key-index in
    let k = c.key-item.result in
    let keys = c.keys-key-items.ensures.keys in
    let P : Key → Bool = key_holds d
    (shown_rows d (rows_after c.args.change.now.moment gone c.args.change.now.added.now rows)) in
    let inside : i < length items = search rules in
    let before = part_in key_of (key_holds d (shown_rows d rows)) d.keys items keys i k inside c.key-item.is h in
    let told : c.in_ok-key_after.field-0 ≡ P (key_of k) = c.in_ok-key_after.ensures rows gone of judged before in
    let left = parts_decide key_of P d.keys items keys i k c.in_ok-key_after.field-0 inside c.key-item.is told in
    let holds : c.in_ok-key_after.field-0 ≡ true = search (rules, tests) in
    sym (left ∙ ap (λ b. b && list_all (λ x. P (key_of x)) (drop (i + 1) items)) holds)
    ∙ c.loop-key.invariant rows gone of judged h

pub returns : goal.returns
returns g c rows gone of judged h =
    let d = c.args.table.now.definition in
    let items = c.keys-key-items.result.now in
    let i = c.loop-key.key-index in
    let keys = c.keys-key-items.ensures.keys in
    let P : Key → Bool = key_holds d
    (shown_rows d (rows_after c.args.change.now.moment gone c.args.change.now.added.now rows)) in
    let past : length items ≤ i = search rules in
    sym (none_left (λ x. P (key_of x)) items i past) ∙ c.loop-key.invariant rows gone of judged h
    ∙ parts_all key_of P d.keys items keys
