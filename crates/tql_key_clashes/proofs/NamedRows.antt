-- The rows of a store by their ids, and members of lists.
use Rattle.std.proofs.Common.{◌≡◌, ◌<◌, refl, sym, ap, subst, ◌∙◌, ℕ, zero, suc, Bool, true, false, cond, List, [], ◌∷◌}
use Rattle.std.proofs.Common.{filter, inl, inr, arith, nat_eq}
use Rattle.std.specs.Prelude.{◌&&◌, ◌||◌, Option, Some, None, option_map, slice_get, slice_index_or, if◌then◌else◌}
use Rattle.std.proofs.lemmas.Bool.Decides.{nat_tests}
use Rattle.tql_spec.specs.Bag.{SameBag, In}
use Rattle.tql_spec.specs.Definition.{Stamped, Version, same_stamped}
use Rattle.tql_spec.proofs.Members.{both, by_bool}
use Rattle.tql_spec.proofs.MemberLists.{in_image, in_kept, in_map, times_some, there_if}
use Rattle.tql_store.specs.StoreModel.{StoreModel, is_among}
use Rattle.tql_versions.specs.Changes.{alive, is_current}
use Rattle.tql_versions.specs.Readings.{where_open}
use Rattle.tql_key_rows.specs.Asked.{current_rows, row_named}
use Rattle.tql_key_clashes.specs.Named.{AreNamed}

-- a row of one of two equal bags is in the other
pub in_bag : (r : Stamped) {xs ys : List Stamped} → SameBag xs ys → In r xs → In r ys
in_bag r {xs} {ys} h m =
    there_if r ys (subst (λ n. 0 < n) (h.totals (λ s. cond (same_stamped r s) 1 0)) (times_some r xs m))

-- a member that passes is in the filtered list
pub kept_in : {A : Type 0} (p : A → Bool) (x : A) (xs : List A) → In x xs → p x ≡ true → In x (filter p xs)
kept_in p x [] m e = absurd m
kept_in p x (y ∷ xs) (inl q) e = at (p y) (sym (ap p q) ∙ e)
  where
    at : (b : Bool) → b ≡ true → In x (cond b (y ∷ filter p xs) (filter p xs))
    at true f = inl q
    at false f = absurd (cc)
kept_in p x (y ∷ xs) (inr m) e = at (p y) (kept_in p x xs m e)
  where
    at : (b : Bool) → In x (filter p xs) → In x (cond b (y ∷ filter p xs) (filter p xs))
    at true n = inr n
    at false n = n

-- `is_among` implies membership
pub among_in : (i : ℕ) (js : List ℕ) → is_among i js ≡ true → In i js
among_in i [] e = absurd (cc)
among_in i (j ∷ js) e = by_bool (nat_eq i j)
    (λ h. inl (grind (arith, nat_tests)))
    (λ h. inr (among_in i js (sym (ap (λ b. b || is_among i js) h) ∙ e)))

-- the converse
pub in_among : (i : ℕ) (js : List ℕ) → In i js → is_among i js ≡ true
in_among i [] m = absurd m
in_among i (j ∷ js) (inl q) = ap (λ b. b || is_among i js) (is i j q)
  where
    is : (a b : ℕ) → a ≡ b → nat_eq a b ≡ true
    is a b e = grind (arith, nat_tests)
in_among i (j ∷ js) (inr m) = ap (λ b. nat_eq i j || b) (in_among i js m) ∙ yes (nat_eq i j)
  where
    yes : (b : Bool) → b || true ≡ true
    yes true = refl
    yes false = refl

-- ---- the rows of a store

at_place : {A : Type 0} (x : A) (xs : List A) → In x xs → (k : ℕ) × (slice_get xs k ≡ Some x)
at_place x [] m = absurd m
at_place x (y ∷ xs) (inl e) = (0, ap Some (sym e))
at_place x (y ∷ xs) (inr m) = let r = at_place x xs m in (suc r.0, r.1)

placed_in : {A : Type 0} (x : A) (xs : List A) (k : ℕ) → slice_get xs k ≡ Some x → In x xs
placed_in x [] k e = absurd (cc)
placed_in x (y ∷ xs) zero e = inl (sym (one y x e))
  where
    one : {A : Type 0} (a b : A) → Some a ≡ Some b → a ≡ b
    one a b q = cc
placed_in x (y ∷ xs) (suc k) e = inr (placed_in x xs k e)

-- each current row of a store has an id, and each id that names a row names a current one
pub store_names : (h : StoreModel) (t : ℕ) → AreNamed (row_named h t) (current_rows h t)
store_names h t r = (to, from)
  where
    vs : List Version
    vs = slice_index_or h.versions t []

    to : In r (current_rows h t) → (id : ℕ) × (row_named h t id ≡ Some r)
    to m =
        let v = in_image (λ (x : Version). x.row) r (filter is_current (filter alive vs)) m in
        let c = in_kept is_current v.0 (filter alive vs) v.1 in
        let a = in_kept alive v.0 vs c.0 in
        let k = at_place v.0 vs a.0 in (
          k.0,
          ap (λ o. option_map (λ (x : Version). x.row) (where_open o)) k.1
              ∙ ap (λ b. option_map (λ (x : Version). x.row) (if b && is_current v.0 then Some v.0 else None)) a.1
              ∙ ap (λ b. option_map (λ (x : Version). x.row) (if b then Some v.0 else None)) c.1 ∙ ap Some (sym v.2),
        )

    from : ((id : ℕ) × (row_named h t id ≡ Some r)) → In r (current_rows h t)
    from n = by_option (slice_get vs n.0) refl n.1
      where
        of_version : (v : Version) → slice_get vs n.0 ≡ Some v
            → option_map (λ (x : Version). x.row) (if alive v && is_current v then Some v else None) ≡ Some r
            → In r (current_rows h t)
        of_version v e q = by_bool (alive v && is_current v)
            (λ b.
            let s : Some v.row ≡ Some r =
            sym (ap (λ c. option_map (λ (x : Version). x.row) (if c then Some v else None)) b) ∙ q in
            let w : v.row ≡ r = cc in
            let p = both (alive v) (is_current v) b in
            subst (λ x. In x (current_rows h t)) w
            (in_map (λ (x : Version). x.row) v (filter is_current (filter alive vs))
            (kept_in is_current v (filter alive vs) (kept_in alive v vs (placed_in v vs n.0 e) p.0) p.1)))
            (λ b.
            let s : None ≡ Some r =
            sym (ap (λ c. option_map (λ (x : Version). x.row) (if c then Some v else None)) b) ∙ q in absurd (cc))

        by_option : (o : Option Version) → slice_get vs n.0 ≡ o
            → option_map (λ (x : Version). x.row) (where_open o) ≡ Some r → In r (current_rows h t)
        by_option None e q = absurd (cc)
        by_option (Some v) e q = of_version v e q
