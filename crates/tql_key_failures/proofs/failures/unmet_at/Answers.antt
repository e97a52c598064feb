use Rattle.std.proofs.lemmas.Option.{slice_get_read}
use borrow.Author.Tests.{ltb-true}
use Rattle.std.proofs.Common.{◌≡◌, ◌<◌, rules, tests, arith, sym, ap, subst, ◌∙◌, true, false, Some, length, map, refl}
use Rattle.std.specs.Prelude.{slice_get}
use Rattle.std.specs.List.{list_all}
use Rattle.tql_spec.specs.AtPoints.{table_rows}
use Rattle.tql_spec.specs.Constraint.{reference_to}
use Rattle.tql_spec.specs.Definition.{TableDef, Reference, table_at, place_of}
use Rattle.tql_catalog.specs.Defined.{is_reference}
use Rattle.tql_catalog.specs.Definitions.{reference_of}
use Rattle.tql_catalog.specs.Tables.{definitions_of}
use Rattle.tql_keys.specs.Checked.{copy_after, has_parent}
use Rattle.tql_keys.proofs.Earlier.{parents_are_earlier}
use Rattle.tql_keys.proofs.WholeCopy.{as_many}
use Rattle.tql_key_failures.specs.Failing.{FailsAfter}
use Rattle.tql_key_failures.proofs.Parts.{failure_is, named_at, part_at, same_part}
use Rattle.tql_key_failures.proofs.failures.unmet_at.Goals as goal

pub reference_after-requires-clause-columns : goal.reference_after-requires-clause-columns
reference_after-requires-clause-columns g c =
    let D = definitions_of c.args.catalog.now in
    let u = c.args.child in
    let items = c.references.result.now in
    let n = c.args.number in
    let x = c.in-Some.reference.now in
    let parts : map reference_of items ≡ (table_at D u).references = c.references.ensures.references
    ∙ sym (ap (λ (d : TableDef). d.references) c.table-table.ensures.definition) in
    let k = c.in-Some.ensures.lookup in
    let there : slice_get items n ≡ Some x = slice_get_read items (length items) n x refl
    (ltb-true n (length items) (sym k.0)) k.1 in
    let right = subst (λ (d : TableDef). list_all (is_reference d) d.references ≡ true)
    (sym c.table-table.ensures.definition) c.references.ensures.right.references in
    part_at reference_of (is_reference (table_at D u)) (table_at D u).references items parts n x there right

pub reference_after-requires-clause-parent : goal.reference_after-requires-clause-parent
reference_after-requires-clause-parent g c =
    let D = definitions_of c.args.catalog.now in
    let u = c.args.child in
    let items = c.references.result.now in
    let n = c.args.number in
    let x = c.in-Some.reference.now in
    let parts : map reference_of items ≡ (table_at D u).references = c.references.ensures.references
    ∙ sym (ap (λ (d : TableDef). d.references) c.table-table.ensures.definition) in
    let k = c.in-Some.ensures.lookup in
    let there : slice_get items n ≡ Some x = slice_get_read items (length items) n x refl
    (ltb-true n (length items) (sym k.0)) k.1 in
    let l : u < length D = omega (arith, as_many c.args.catalog.now, c.requires.child_within) in
    part_at reference_of (has_parent D u) (table_at D u).references items parts n x there
    (parents_are_earlier D u c.len.ensures.right.parents l)

pub unmet_row-requires-clause-columns : goal.unmet_row-requires-clause-columns
unmet_row-requires-clause-columns g c =
    let D = definitions_of c.args.catalog.now in
    let u = c.args.child in
    let items = c.references.result.now in
    let n = c.args.number in
    let x = c.in-Some.reference.now in
    let parts : map reference_of items ≡ (table_at D u).references = c.references.ensures.references
    ∙ sym (ap (λ (d : TableDef). d.references) c.table-table.ensures.definition) in
    let k = c.in-Some.ensures.lookup in
    let there : slice_get items n ≡ Some x = slice_get_read items (length items) n x refl
    (ltb-true n (length items) (sym k.0)) k.1 in
    let right = subst (λ (d : TableDef). list_all (is_reference d) d.references ≡ true)
    (sym c.table-table.ensures.definition) c.references.ensures.right.references in
    part_at reference_of (is_reference (table_at D u)) (table_at D u).references items parts n x there right

pub unmet_row-requires-clause-parent : goal.unmet_row-requires-clause-parent
unmet_row-requires-clause-parent g c =
    let D = definitions_of c.args.catalog.now in
    let u = c.args.child in
    let items = c.references.result.now in
    let n = c.args.number in
    let x = c.in-Some.reference.now in
    let parts : map reference_of items ≡ (table_at D u).references = c.references.ensures.references
    ∙ sym (ap (λ (d : TableDef). d.references) c.table-table.ensures.definition) in
    let k = c.in-Some.ensures.lookup in
    let there : slice_get items n ≡ Some x = slice_get_read items (length items) n x refl
    (ltb-true n (length items) (sym k.0)) k.1 in
    let l : u < length D = omega (arith, as_many c.args.catalog.now, c.requires.child_within) in
    part_at reference_of (has_parent D u) (table_at D u).references items parts n x there
    (parents_are_earlier D u c.len.ensures.right.parents l)

pub returns : goal.returns
returns g c =
    let D = definitions_of c.args.catalog.now in
    let u = c.args.child in
    let items = c.references.result.now in
    let n = c.args.number in
    let x = c.in-Some.reference.now in
    let parts : map reference_of items ≡ (table_at D u).references = c.references.ensures.references
    ∙ sym (ap (λ (d : TableDef). d.references) c.table-table.ensures.definition) in
    let k = c.in-Some.ensures.lookup in
    let there : slice_get items n ≡ Some x = slice_get_read items (length items) n x refl
    (ltb-true n (length items) (sym k.0)) k.1 in
    let tables = c.args.catalog.now in
    let m = c.args.change.now.moment in
    let removed = c.args.change.now.removed.now in
    let added = c.args.change.now.added.now in
    let fails : c.in_ok-reference_after.field-0 ≡ false = search (rules, tests) in
    let after : FailsAfter c.args.store.now tables c.args.place removed m added u n = λ copy gone f is judged at held.
    let next = copy_after m c.args.place gone added copy in
    let P : Reference → Type 0 = λ r.
    reference_to D copy (table_at D u) (table_rows D copy u) r (place_of r.parent D) ≡ true
    → reference_to D next (table_at D u) (table_rows D next u) r (place_of r.parent D) ≡ false in
    let one : P (reference_of x) = λ h. sym (c.in_ok-reference_after.ensures copy gone is judged h) ∙ fails in
    subst P (same_part (named_at reference_of (table_at D u).references items parts n x there) at) one held in
    failure_is c.reference_failure.result u n
    (λ v k. (v < length tables) × FailsAfter c.args.store.now tables c.args.place removed m added v k)
    c.reference_failure.ensures.child c.reference_failure.ensures.reference (c.requires.child_within, after)
