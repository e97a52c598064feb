use Rattle.std.proofs.Common.{◌≡◌, ◌<◌, ◌+◌, ◌++◌, true, rules, sym, subst, length, map, take, List, ℕ}
use Rattle.std.specs.List.{AllZip, list_all}
use Rattle.tql_spec.specs.Definition.{Reference}
use Rattle.tql_catalog.specs.Defined.{is_reference}
use Rattle.tql_catalog.specs.Definitions.{reference_of}
use Rattle.tql_catalog.specs.Rows.{are_assignable, AreStoredAt}
use Rattle.tql_catalog.specs.Sought.{lists_of}
use Rattle.tql_catalog.proofs.SoughtLists.{test_of, one_list_more}
use Rattle.tql_catalog.proofs.table_def.TableDef.add_reference_lists.Goals as goal

pub stored_numbers-requires : goal.stored_numbers-requires
stored_numbers-requires c =
    let d = c.args.self.now in
    let got = c.references-reference-items in
    let i = c.loop-reference.reference-index in
    let inside : i < length got.result.now = search rules in
    let right = subst (λ parts. list_all (is_reference d) parts ≡ true)
    (sym got.ensures.references) got.ensures.right.references in
    subst (λ is. are_assignable d is ≡ true) (sym c.deref.ensures.value)
    (test_of (is_reference d) reference_of got.result.now i c.reference-item.result inside c.reference-item.is right)

pub loop-reference-preserved : goal.loop-reference-preserved
loop-reference-preserved c before h =
    let d = c.args.self.now in
    let items = c.references-reference-items.result.now in
    let i = c.loop-reference.reference-index in
    let inside : i < length items = search rules in
    let stored = c.in_ok-stored_numbers.field-0 in
    let at = subst (λ is. AreStoredAt d is stored.items) c.deref.ensures.value c.in_ok-stored_numbers.ensures in
    let listed : Reference → List ℕ = λ p. p.columns in
    subst (λ ls. AllZip (AreStoredAt d) (before ++ map listed (map reference_of (take (i + 1) items))) (lists_of ls))
    (sym c.in_ok-push.ensures.items)
    (one_list_more d before listed reference_of items i c.reference-item.result c.loop-reference.lists.items stored
    inside c.reference-item.is at (c.loop-reference.invariant before h))
