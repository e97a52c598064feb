use Rattle.std.proofs.Common.{◌≡◌, ◌<◌, rules, tests, arith, sym, ap, subst, ◌∙◌, ℕ, true, false, List, length, w64}
use Rattle.std.proofs.Common.{to_z, of_z}
use Rattle.std.specs.Prelude.{ℤ, slice_set}
use Rattle.std.proofs.Math.Facts.{to_z-of_z}
use Rattle.tql_spec.specs.Constraint.{keys_hold, references_hold, shown_rows}
use Rattle.tql_spec.specs.Datum.{Row}
use Rattle.tql_spec.specs.History.{rows_in}
use Rattle.tql_catalog.specs.Tables.{definitions_of}
use Rattle.tql_store.specs.Changes.{rows_after}
use Rattle.tql_store.specs.Represents.{Judged}
use Rattle.tql_store.specs.StoreModel.{is_among}
use Rattle.tql_key_clashes.specs.Free.{keys_hold_of}
use Rattle.tql_keys.specs.Checked.{AreJudged, copy_after}
use Rattle.tql_keys.proofs.GoneRows.{judged_rows}
use Rattle.tql_keys.proofs.Sameness.{keys_alike, references_alike}
use Rattle.tql_keys.proofs.WholeCopy.{keys_told, as_many}
use Rattle.tql_keys.proofs.check.test.Goals as goal

pub returns-then-not-branch : goal.returns-then-not-branch
returns-then-not-branch g c copy rows gone is goes keys_held references_held same =
    let D = definitions_of c.args.catalog.now in
    let t = c.args.place in
    let m = c.args.moment in
    let h = c.args.store.now in
    let p = c.table.result.now in
    let removed = c.deref-2.result.now in
    let added = c.args.delta.now.added.items in
    let e : to_z w64 (of_z w64 m) ≡ m = to_z-of_z c.ranges.moment in
    let ids : (id : ℕ) → is_among id removed ≡ is_among id c.args.delta.now.removed.items = λ id.
    ap (is_among id) c.deref-2.ensures.value ∙ c.in_ok-removed.ensures.same id
    ∙ ap (is_among id) c.deref.ensures.value in
    let came : c.deref-3.result.now ≡ added = c.deref-3.ensures.value in
    let judged : AreJudged h c.args.catalog.now t gone removed = λ q at id r named.
    ids id ∙ judged_rows h q.id gone c.args.delta.now.removed.items
    (subst (λ (k : ℕ). Judged h k gone c.args.delta.now.removed.items) (sym (c.requires.table q at)) goes) id r named in
    let n : length copy ≡ length D = is.as_many ∙ sym (as_many c.args.catalog.now) in
    let l : t < length D = omega (arith, as_many c.args.catalog.now, c.requires.within) in
    let keys : c.in_ok-keys_after.field-0 ≡ keys_hold D (slice_set copy t rows) =
    keys_told D p.definition copy m t gone added c.in_ok-keys_after.field-0 c.table.ensures.definition l n keys_held
    (λ k. subst (λ (z : ℤ). c.in_ok-keys_after.field-0 ≡ keys_hold_of p.definition (shown_rows p.definition
    (rows_after z gone added (rows_in copy t)))) e
    (subst (λ (new : List Row). c.in_ok-keys_after.field-0 ≡ keys_hold_of p.definition (shown_rows p.definition
    (rows_after (to_z w64 (of_z w64 m)) gone new (rows_in copy t)))) came
    (c.in_ok-keys_after.ensures (rows_in copy t) gone (is.rows t p c.table.ensures.table)
    (judged p c.table.ensures.table) k)))
    ∙ sym (keys_alike D copy t same) in
    let fails : c.in_ok-keys_after.field-0 ≡ false = search (rules, tests) in
    sym keys ∙ fails

pub returns-then-not-branch-2 : goal.returns-then-not-branch-2
returns-then-not-branch-2 g c copy rows gone is goes keys_held references_held same =
    let D = definitions_of c.args.catalog.now in
    let t = c.args.place in
    let m = c.args.moment in
    let h = c.args.store.now in
    let p = c.table.result.now in
    let removed = c.deref-2.result.now in
    let added = c.args.delta.now.added.items in
    let e : to_z w64 (of_z w64 m) ≡ m = to_z-of_z c.ranges.moment in
    let ids : (id : ℕ) → is_among id removed ≡ is_among id c.args.delta.now.removed.items = λ id.
    ap (is_among id) c.deref-2.ensures.value ∙ c.in_ok-removed.ensures.same id
    ∙ ap (is_among id) c.deref.ensures.value in
    let came : c.deref-3.result.now ≡ added = c.deref-3.ensures.value in
    let judged : AreJudged h c.args.catalog.now t gone removed = λ q at id r named.
    ids id ∙ judged_rows h q.id gone c.args.delta.now.removed.items
    (subst (λ (k : ℕ). Judged h k gone c.args.delta.now.removed.items) (sym (c.requires.table q at)) goes) id r named in
    let n : length copy ≡ length D = is.as_many ∙ sym (as_many c.args.catalog.now) in
    let l : t < length D = omega (arith, as_many c.args.catalog.now, c.requires.within) in
    let keys : c.in_ok-keys_after.field-0 ≡ keys_hold D (slice_set copy t rows) =
    keys_told D p.definition copy m t gone added c.in_ok-keys_after.field-0 c.table.ensures.definition l n keys_held
    (λ k. subst (λ (z : ℤ). c.in_ok-keys_after.field-0 ≡ keys_hold_of p.definition (shown_rows p.definition
    (rows_after z gone added (rows_in copy t)))) e
    (subst (λ (new : List Row). c.in_ok-keys_after.field-0 ≡ keys_hold_of p.definition (shown_rows p.definition
    (rows_after (to_z w64 (of_z w64 m)) gone new (rows_in copy t)))) came
    (c.in_ok-keys_after.ensures (rows_in copy t) gone (is.rows t p c.table.ensures.table)
    (judged p c.table.ensures.table) k)))
    ∙ sym (keys_alike D copy t same) in
    let references : c.in_ok-references_after.field-0 ≡ references_hold D (slice_set copy t rows) =
    subst (λ (z : ℤ). c.in_ok-references_after.field-0 ≡ references_hold D (copy_after z t gone added copy)) e
    (subst (λ (new : List Row). c.in_ok-references_after.field-0
    ≡ references_hold D (copy_after (to_z w64 (of_z w64 m)) t gone new copy)) came
    (c.in_ok-references_after.ensures copy gone is judged references_held))
    ∙ sym (references_alike D copy t same) in
    let holds : c.in_ok-keys_after.field-0 ≡ true = search (rules, tests) in
    let fails : c.in_ok-references_after.field-0 ≡ false = search (rules, tests) in
    (sym keys ∙ holds, sym references ∙ fails)

pub returns : goal.returns
returns g c copy rows gone is goes keys_held references_held same =
    let D = definitions_of c.args.catalog.now in
    let t = c.args.place in
    let m = c.args.moment in
    let h = c.args.store.now in
    let p = c.table.result.now in
    let removed = c.deref-2.result.now in
    let added = c.args.delta.now.added.items in
    let e : to_z w64 (of_z w64 m) ≡ m = to_z-of_z c.ranges.moment in
    let ids : (id : ℕ) → is_among id removed ≡ is_among id c.args.delta.now.removed.items = λ id.
    ap (is_among id) c.deref-2.ensures.value ∙ c.in_ok-removed.ensures.same id
    ∙ ap (is_among id) c.deref.ensures.value in
    let came : c.deref-3.result.now ≡ added = c.deref-3.ensures.value in
    let judged : AreJudged h c.args.catalog.now t gone removed = λ q at id r named.
    ids id ∙ judged_rows h q.id gone c.args.delta.now.removed.items
    (subst (λ (k : ℕ). Judged h k gone c.args.delta.now.removed.items) (sym (c.requires.table q at)) goes) id r named in
    let n : length copy ≡ length D = is.as_many ∙ sym (as_many c.args.catalog.now) in
    let l : t < length D = omega (arith, as_many c.args.catalog.now, c.requires.within) in
    let keys : c.in_ok-keys_after.field-0 ≡ keys_hold D (slice_set copy t rows) =
    keys_told D p.definition copy m t gone added c.in_ok-keys_after.field-0 c.table.ensures.definition l n keys_held
    (λ k. subst (λ (z : ℤ). c.in_ok-keys_after.field-0 ≡ keys_hold_of p.definition (shown_rows p.definition
    (rows_after z gone added (rows_in copy t)))) e
    (subst (λ (new : List Row). c.in_ok-keys_after.field-0 ≡ keys_hold_of p.definition (shown_rows p.definition
    (rows_after (to_z w64 (of_z w64 m)) gone new (rows_in copy t)))) came
    (c.in_ok-keys_after.ensures (rows_in copy t) gone (is.rows t p c.table.ensures.table)
    (judged p c.table.ensures.table) k)))
    ∙ sym (keys_alike D copy t same) in
    let references : c.in_ok-references_after.field-0 ≡ references_hold D (slice_set copy t rows) =
    subst (λ (z : ℤ). c.in_ok-references_after.field-0 ≡ references_hold D (copy_after z t gone added copy)) e
    (subst (λ (new : List Row). c.in_ok-references_after.field-0
    ≡ references_hold D (copy_after (to_z w64 (of_z w64 m)) t gone new copy)) came
    (c.in_ok-references_after.ensures copy gone is judged references_held))
    ∙ sym (references_alike D copy t same) in
    let holds : c.in_ok-keys_after.field-0 ≡ true = search (rules, tests) in
    let met : c.in_ok-references_after.field-0 ≡ true = search (rules, tests) in
    (sym keys ∙ holds, sym references ∙ met)
