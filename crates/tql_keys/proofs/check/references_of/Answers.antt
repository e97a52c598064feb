use Rattle.std.proofs.Common.{◌≡◌, ◌<◌, ◌≤◌, ◌+◌, rules, tests, arith, sym, ap, subst, ◌∙◌, Bool, true, false, length}
use Rattle.std.proofs.Common.{drop, map}
use Rattle.std.specs.Prelude.{◌&&◌}
use Rattle.std.specs.List.{list_all}
use Rattle.tql_spec.specs.Definition.{TableDef, Reference, table_at}
use Rattle.tql_catalog.specs.Defined.{is_reference}
use Rattle.tql_catalog.specs.Definitions.{reference_of}
use Rattle.tql_catalog.specs.Tables.{definitions_of}
use Rattle.tql_keys.specs.Checked.{copy_after, has_parent}
use Rattle.tql_key_rows.proofs.Stepping.{none_left}
use Rattle.tql_key_clashes.proofs.Positions.{part_in, parts_decide, parts_all}
use Rattle.tql_keys.proofs.Earlier.{parents_are_earlier}
use Rattle.tql_keys.proofs.Tested.{reference_in}
use Rattle.tql_keys.proofs.WholeCopy.{as_many}
use Rattle.tql_keys.proofs.check.references_of.Goals as goal

pub reference_after-requires-clause-columns : goal.reference_after-requires-clause-columns
reference_after-requires-clause-columns g c =
    let D = definitions_of c.args.catalog.now in
    let u = c.args.child in
    let items = c.references-reference-items.result.now in
    let i = c.loop-reference.reference-index in
    let parts : map reference_of items ≡ (table_at D u).references = c.references-reference-items.ensures.references
    ∙ sym (ap (λ (d : TableDef). d.references) c.table-table.ensures.definition) in
    let inside : i < length items = search rules in
    let right = subst (λ (d : TableDef). list_all (is_reference d) d.references ≡ true)
    (sym c.table-table.ensures.definition) c.references-reference-items.ensures.right.references in
    part_in reference_of (is_reference (table_at D u)) (table_at D u).references items parts i c.reference-item.result
    inside c.reference-item.is right

pub reference_after-requires-clause-parent : goal.reference_after-requires-clause-parent
reference_after-requires-clause-parent g c =
    let D = definitions_of c.args.catalog.now in
    let u = c.args.child in
    let items = c.references-reference-items.result.now in
    let i = c.loop-reference.reference-index in
    let parts : map reference_of items ≡ (table_at D u).references = c.references-reference-items.ensures.references
    ∙ sym (ap (λ (d : TableDef). d.references) c.table-table.ensures.definition) in
    let inside : i < length items = search rules in
    let l : u < length D = omega (arith, as_many c.args.catalog.now, c.requires.child_within) in
    part_in reference_of (has_parent D u) (table_at D u).references items parts i c.reference-item.result inside
    c.reference-item.is (parents_are_earlier D u c.len.ensures.right.parents l)

pub returns-then-not-branch : goal.returns-then-not-branch
returns-then-not-branch g c copy gone is judged h =
    let D = definitions_of c.args.catalog.now in
    let u = c.args.child in
    let items = c.references-reference-items.result.now in
    let i = c.loop-reference.reference-index in
    let parts : map reference_of items ≡ (table_at D u).references = c.references-reference-items.ensures.references
    ∙ sym (ap (λ (d : TableDef). d.references) c.table-table.ensures.definition) in
    let after = copy_after c.args.change.now.moment c.args.place gone c.args.change.now.added.now copy in
    let P : Reference → Bool = reference_in D after u in
    let inside : i < length items = search rules in
    let before = part_in reference_of (reference_in D copy u) (table_at D u).references items parts i
    c.reference-item.result inside c.reference-item.is h in
    let told : c.in_ok-reference_after.field-0 ≡ P (reference_of c.reference-item.result) =
    c.in_ok-reference_after.ensures copy gone is judged before in
    let left = parts_decide reference_of P (table_at D u).references items parts i c.reference-item.result
    c.in_ok-reference_after.field-0 inside c.reference-item.is told in
    let fails : c.in_ok-reference_after.field-0 ≡ false = search (rules, tests) in
    sym (sym (parts_all reference_of P (table_at D u).references items parts)
    ∙ sym (c.loop-reference.invariant copy gone is judged h) ∙ left
    ∙ ap (λ b. b && list_all (λ x. P (reference_of x)) (drop (i + 1) items)) fails)

pub loop-reference-preserved : goal.loop-reference-preserved
loop-reference-preserved g c copy gone is judged h =
    let D = definitions_of c.args.catalog.now in
    let u = c.args.child in
    let items = c.references-reference-items.result.now in
    let i = c.loop-reference.reference-index in
    let parts : map reference_of items ≡ (table_at D u).references = c.references-reference-items.ensures.references
    ∙ sym (ap (λ (d : TableDef). d.references) c.table-table.ensures.definition) in
    let after = copy_after c.args.change.now.moment c.args.place gone c.args.change.now.added.now copy in
    let P : Reference → Bool = reference_in D after u in
    let inside : i < length items = search rules in
    let before = part_in reference_of (reference_in D copy u) (table_at D u).references items parts i
    c.reference-item.result inside c.reference-item.is h in
    let told : c.in_ok-reference_after.field-0 ≡ P (reference_of c.reference-item.result) =
    c.in_ok-reference_after.ensures copy gone is judged before in
    let left = parts_decide reference_of P (table_at D u).references items parts i c.reference-item.result
    c.in_ok-reference_after.field-0 inside c.reference-item.is told in
    let holds : c.in_ok-reference_after.field-0 ≡ true = search (rules, tests) in
    sym (left ∙ ap (λ b. b && list_all (λ x. P (reference_of x)) (drop (i + 1) items)) holds)
    ∙ c.loop-reference.invariant copy gone is judged h

pub returns : goal.returns
returns g c copy gone is judged h =
    let D = definitions_of c.args.catalog.now in
    let u = c.args.child in
    let items = c.references-reference-items.result.now in
    let i = c.loop-reference.reference-index in
    let parts : map reference_of items ≡ (table_at D u).references = c.references-reference-items.ensures.references
    ∙ sym (ap (λ (d : TableDef). d.references) c.table-table.ensures.definition) in
    let after = copy_after c.args.change.now.moment c.args.place gone c.args.change.now.added.now copy in
    let P : Reference → Bool = reference_in D after u in
    let past : length items ≤ i = search rules in
    sym (none_left (λ x. P (reference_of x)) items i past) ∙ c.loop-reference.invariant copy gone is judged h
    ∙ parts_all reference_of P (table_at D u).references items parts
