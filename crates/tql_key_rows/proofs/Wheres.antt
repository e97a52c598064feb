-- Tests over filtered lists and over bags.
use Rattle.std.proofs.Common.{◌≡◌, refl, sym, ap, ◌∙◌, Bool, true, false, cond, List, [], ◌∷◌, map, filter}
use Rattle.std.specs.Prelude.{◌&&◌, ◌||◌, not, ltb}
use Rattle.std.specs.List.{list_all, list_any}
use Rattle.tql_spec.specs.Bag.{SameBag}
use Rattle.tql_spec.proofs.Members.{any-total}
use Rattle.tql_key_rows.proofs.Bools.{all_map, all_same}

-- ---- bags

-- all pass exactly if none fails
none_fails : {A : Type 0} (p : A → Bool) (xs : List A) → list_all p xs ≡ not (list_any (λ x. not (p x)) xs)
none_fails p [] = refl
none_fails p (x ∷ xs) = ap (λ b. p x && b) (none_fails p xs) ∙ turned (p x) (list_any (λ y. not (p y)) xs)
  where
    turned : (a b : Bool) → a && not b ≡ not (not a || b)
    turned true b = refl
    turned false b = refl

-- so their order does not matter
pub all_bag : {A : Type 0} (p : A → Bool) {xs ys : List A} → SameBag xs ys → list_all p xs ≡ list_all p ys
all_bag p {xs} {ys} h =
    none_fails p xs
    ∙ ap not (any-total (λ x. not (p x)) xs ∙ ap (ltb 0) (h.totals (λ x. cond (not (p x)) 1 0))
    ∙ sym (any-total (λ x. not (p x)) ys))
    ∙ sym (none_fails p ys)

-- whether some element passes depends only on the bag
pub any_bag : {A : Type 0} (p : A → Bool) {xs ys : List A} → SameBag xs ys → list_any p xs ≡ list_any p ys
any_bag p {xs} {ys} h =
    any-total p xs ∙ ap (ltb 0) (h.totals (λ x. cond (p x) 1 0)) ∙ sym (any-total p ys)

-- ---- tests over filtered lists

kept_one : {A : Type 0} (q : A → Bool) (b : Bool) (x : A) (ys : List A)
    → list_all q (cond b (x ∷ ys) ys) ≡ (not b || q x) && list_all q ys
kept_one q true x ys = refl
kept_one q false x ys = refl

pub all_where : {A : Type 0} (h q : A → Bool) (xs : List A)
    → list_all q (filter h xs) ≡ list_all (λ x. not (h x) || q x) xs
all_where h q [] = refl
all_where h q (x ∷ xs) = kept_one q (h x) x (filter h xs) ∙ ap (λ b. (not (h x) || q x) && b) (all_where h q xs)

-- filtering a mapped list
pub all_where_map : {A B : Type 0} (s : A → B) (h q : B → Bool) (xs : List A)
    → list_all q (filter h (map s xs)) ≡ list_all (λ x. q (s x)) (filter (λ x. h (s x)) xs)
all_where_map s h q xs =
    all_where h q (map s xs) ∙ all_map (λ y. not (h y) || q y) s xs ∙ sym (all_where (λ x. h (s x)) (λ x. q (s x)) xs)

-- of one kind, all surviving elements pass exactly if each element is removed or passes
pub all_staying : {A : Type 0} (gone h q : A → Bool) (xs : List A)
    → list_all (λ x. gone x || q x) (filter h xs) ≡ list_all q (filter h (filter (λ x. not (gone x)) xs))
all_staying gone h q xs =
    all_where h (λ x. gone x || q x) xs
    ∙ all_same (λ x. not (h x) || (gone x || q x)) (λ x. not (not (gone x)) || (not (h x) || q x)) xs
    (λ x. turned (h x) (gone x) (q x))
    ∙ sym (all_where h q (filter (λ x. not (gone x)) xs) ∙ all_where (λ x. not (gone x)) (λ x. not (h x) || q x) xs)
  where
    turned : (a b c : Bool) → not a || (b || c) ≡ not (not b) || (not a || c)
    turned true true c = refl
    turned true false c = refl
    turned false true c = refl
    turned false false c = refl
