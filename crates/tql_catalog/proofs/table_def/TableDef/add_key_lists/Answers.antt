use Rattle.std.proofs.Common.{◌≡◌, ◌<◌, ◌+◌, ◌++◌, true, rules, sym, subst, length, map, take, List, ℕ}
use Rattle.std.specs.List.{AllZip, list_all}
use Rattle.tql_spec.specs.Definition.{Key}
use Rattle.tql_catalog.specs.Defined.{is_key}
use Rattle.tql_catalog.specs.Definitions.{key_of}
use Rattle.tql_catalog.specs.Rows.{are_assignable, AreStoredAt}
use Rattle.tql_catalog.specs.Sought.{lists_of}
use Rattle.tql_catalog.proofs.SoughtLists.{test_of, one_list_more}
use Rattle.tql_catalog.proofs.table_def.TableDef.add_key_lists.Goals as goal

pub stored_numbers-requires : goal.stored_numbers-requires
stored_numbers-requires c =
    let d = c.args.self.now in
    let got = c.keys-key-items in
    let i = c.loop-key.key-index in
    let inside : i < length got.result.now = search rules in
    let right = subst (λ parts. list_all (is_key d) parts ≡ true)
    (sym got.ensures.keys) got.ensures.right.keys in
    subst (λ is. are_assignable d is ≡ true) (sym c.deref.ensures.value)
    (test_of (is_key d) key_of got.result.now i c.key-item.result inside c.key-item.is right)

pub loop-key-preserved : goal.loop-key-preserved
loop-key-preserved c before h =
    let d = c.args.self.now in
    let items = c.keys-key-items.result.now in
    let i = c.loop-key.key-index in
    let inside : i < length items = search rules in
    let stored = c.in_ok-stored_numbers.field-0 in
    let at = subst (λ is. AreStoredAt d is stored.items) c.deref.ensures.value c.in_ok-stored_numbers.ensures in
    let listed : Key → List ℕ = λ p. p.columns in
    subst (λ ls. AllZip (AreStoredAt d) (before ++ map listed (map key_of (take (i + 1) items))) (lists_of ls))
    (sym c.in_ok-push.ensures.items)
    (one_list_more d before listed key_of items i c.key-item.result c.loop-key.lists.items stored
    inside c.key-item.is at (c.loop-key.invariant before h))
