-- A key that held still holds if the added rows are alike the removed ones.
use Rattle.std.proofs.Common.{◌≡◌, refl, sym, ap, ◌∙◌, ℕ, Bool, true, false, List, [], ◌∷◌, nat_eq, arith}
use Rattle.std.specs.Prelude.{◌&&◌, not, ℤ, Some}
use Rattle.std.specs.List.{list_all}
use Rattle.std.proofs.lemmas.Bool.Decides.{nat_tests}
use Rattle.tql_spec.specs.Bag.{In, SameBag}
use Rattle.tql_spec.specs.Constraint.{clash, key_holds, shown_rows}
use Rattle.tql_spec.specs.Datum.{Row}
use Rattle.tql_spec.specs.Definition.{TableDef, Key, Stamped, shown}
use Rattle.tql_spec.proofs.AtPoints.{all_in, in_all}
use Rattle.tql_spec.proofs.Bags.{same-map}
use Rattle.tql_spec.proofs.Members.{both, by_bool}
use Rattle.tql_spec.proofs.MemberLists.{in_image, in_kept}
use Rattle.tql_store.specs.Changes.{rows_after}
use Rattle.tql_store.specs.StoreModel.{StoreModel, is_among}
use Rattle.tql_key_rows.specs.Asked.{current_rows, new_rows, row_named}
use Rattle.tql_key_rows.specs.Keeping.{are_kept, is_kept}
use Rattle.tql_key_rows.specs.Rising.{are_distinct}
use Rattle.tql_key_clashes.specs.Named.{IsJudged, staying}
use Rattle.tql_key_clashes.specs.Free.{is_free}
use Rattle.tql_key_rows.proofs.Bools.{pairs_map}
use Rattle.tql_key_clashes.proofs.Alikes.{clash_alike, alike_itself}
use Rattle.tql_key_clashes.proofs.Freely.{key_after}
use Rattle.tql_key_clashes.proofs.KeptRows.{of_row, of_two, stands}
use Rattle.tql_key_clashes.proofs.KeyLaw.{none_clash}
use Rattle.tql_key_clashes.proofs.NamedRows.{store_names, in_bag}
use Rattle.tql_key_clashes.proofs.KeyBags.{key_by_bag, clash_turned}

module _ (h : StoreModel) (t : ℕ) (d : TableDef) (k : Key) where
  -- whether two rows do not clash
  abbrev apart : Stamped → Stamped → Bool
  apart r s = not (clash d k (shown d r) (shown d s))

  -- the rows of two different ids do not clash
  abbrev AreTwoApart : Type 0
  AreTwoApart = (a b : ℕ) (r s : Stamped) → nat_eq a b ≡ false → row_named h t a ≡ Some r → row_named h t b ≡ Some s
      → apart r s ≡ true

  two_apart : (rows : List Stamped) → SameBag rows (current_rows h t) → key_holds d (shown_rows d rows) k ≡ true
      → AreTwoApart
  two_apart rows same e =
      of_two h t apart (λ x y. ap not (clash_turned d k (shown d x) (shown d y)))
      (sym (pairs_map (λ r s. not (clash d k r s)) (shown d) (current_rows h t))
      ∙ sym (key_by_bag d (same-map (shown d) same) k) ∙ e)

  not_yes : (b : Bool) → not b ≡ true → b ≡ false
  not_yes true e = absurd (cc)
  not_yes false e = refl

  -- the added rows do not clash with each other
  new_apart : AreTwoApart → (ids : List ℕ) (new : List Row) → are_distinct ids ≡ true
      → are_kept d k.columns k.by_period (row_named h t) ids new ≡ true → key_holds d new k ≡ true
  new_apart two [] [] a e = refl
  new_apart two [] (x ∷ new) a e = absurd (cc)
  new_apart two (id ∷ ids) [] a e = absurd (cc)
  new_apart two (id ∷ ids) (x ∷ new) a e =
      let b = both (is_kept d k.columns k.by_period (row_named h t id) x)
      (are_kept d k.columns k.by_period (row_named h t) ids new) e in
      let f = both (list_all (λ j. not (nat_eq id j)) ids) (are_distinct ids) a in
      let i = stands d k.columns k.by_period (row_named h t) id x (row_named h t id) refl b.0 in
      ap (λ c. c && key_holds d new k) (in_all (λ s. not (clash d k x s)) new (λ s m.
      let o = of_row d k.columns k.by_period (row_named h t) ids new b.1 s m in
      let j = o.2 in
      ap not (sym (clash_alike d k (shown d i.row) x (shown d j.row) s i.alike j.alike))
      ∙ two id o.0 i.row j.row (not_yes (nat_eq id o.0) (all_in (λ j. not (nat_eq id j)) ids o.0 f.0 o.1)) i.is j.is))
      ∙ new_apart two ids new f.1 b.1

  same_id : (a b : ℕ) → nat_eq a b ≡ true → a ≡ b
  same_id a b e = grind (arith, nat_tests, e)

  one_row : (r s : Stamped) → Some r ≡ Some s → r ≡ s
  one_row r s e = cc

  -- nor do they clash with the unchanged rows
  new_free : AreTwoApart → (gone : Stamped → Bool) (rows : List Stamped) → SameBag rows (current_rows h t)
      → (ids : List ℕ) (new : List Row)
      → ((id : ℕ) (r : Stamped) → In id ids → row_named h t id ≡ Some r → gone r ≡ true)
      → are_kept d k.columns k.by_period (row_named h t) ids new ≡ true
      → list_all (is_free d k (shown_rows d (staying gone rows))) new ≡ true
  new_free two gone rows same ids new goes e = in_all (is_free d k (shown_rows d (staying gone rows))) new (λ x m.
      let o = of_row d k.columns k.by_period (row_named h t) ids new e x m in
      sym (none_clash d k (shown_rows d (staying gone rows)) x)
      ∙ in_all (λ r. not (clash d k r x)) (shown_rows d (staying gone rows)) (λ y n.
      let r = in_image (shown d) y (staying gone rows) n in
      let s = in_kept (λ q. not (gone q)) r.0 rows r.1 in
      let i = (store_names h t r.0).0 (in_bag r.0 same s.0) in
      let other : nat_eq i.0 o.0 ≡ false = by_bool (nat_eq i.0 o.0)
      (λ q. absurd (stays r.0 o.2.row s.1 (goes o.0 o.2.row o.1 o.2.is)
      (one_row r.0 o.2.row (sym i.1 ∙ ap (row_named h t) (same_id i.0 o.0 q) ∙ o.2.is))))
      (λ q. q) in
      ap (λ z. not (clash d k z x)) r.2
      ∙ ap not (sym (clash_alike d k (shown d r.0) (shown d r.0) (shown d o.2.row) x
      (alike_itself d k.columns k.by_period (shown d r.0)) o.2.alike))
      ∙ two i.0 o.0 r.0 o.2.row other i.1 o.2.is))
    where
      stays : (r s : Stamped) → not (gone r) ≡ true → gone s ≡ true → r ≡ s → ⊥
      stays r s e f q = let w : gone r ≡ true = ap gone q ∙ f in let v : not true ≡ true = sym (ap not w) ∙ e in cc

  -- so the key holds after the change
  pub key_kept_after : (m : ℤ) (gone : Stamped → Bool) (added : List Row) (rows : List Stamped) (ids removed : List ℕ)
      → SameBag rows (current_rows h t) → IsJudged (row_named h t) gone removed
      → ((id : ℕ) → In id ids → is_among id removed ≡ true) → are_distinct ids ≡ true
      → are_kept d k.columns k.by_period (row_named h t) ids (new_rows d m added) ≡ true
      → key_holds d (shown_rows d rows) k ≡ true
      → true ≡ key_holds d (shown_rows d (rows_after m gone added rows)) k
  key_kept_after m gone added rows ids removed same judged listed a e held =
      let two = two_apart rows same held in
      key_after d k m gone added rows true true held
      (sym (new_apart two ids (new_rows d m added) a e))
      (sym (new_free two gone rows same ids (new_rows d m added)
      (λ id r i n. sym (judged id r n) ∙ listed id i) e))
