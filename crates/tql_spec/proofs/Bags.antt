-- Operations that preserve bags, and sums over bags.
use Rattle.std.proofs.Common.{◌≡◌, ℕ, ◌+◌, Bool, true, false, cond, List, [], ◌∷◌, ◌++◌, map, filter, flat_map, refl}
use Rattle.std.proofs.Common.{sym, ap, ◌∙◌, arith, IsPermutation}
use Rattle.std.specs.List.{sum_by}
use Rattle.std.proofs.lemmas.List.Sums.{sum_by-cons, sum_by-append}
use Rattle.std.proofs.lemmas.List.Sorted.{sum_by-IsPermutation}
use Rattle.std.proofs.lemmas.List.Concat.{flat_map-cons}
use Rattle.tql_spec.specs.Bag.{SameBag}

pub sum-map : {X Y : Type 0} (g : X → Y) (w : Y → ℕ) (xs : List X) → sum_by w (map g xs) ≡ sum_by (λ x. w (g x)) xs
sum-map g w [] = refl
sum-map g w (x ∷ xs) = omega (arith, sum_by-cons w (g x) (map g xs), sum_by-cons (λ y. w (g y)) x xs, sum-map g w xs)

pub sum-filter : {X : Type 0} (p : X → Bool) (w : X → ℕ) (xs : List X)
    → sum_by w (filter p xs) ≡ sum_by (λ x. cond (p x) (w x) 0) xs
sum-filter p w [] = refl
sum-filter p w (x ∷ xs) =
    let later = sum-filter p w xs in
    let cons = sum_by-cons (λ y. cond (p y) (w y) 0) x xs in
    elim (p x) as (λ b. (sum_by (λ y. cond (p y) (w y) 0) (x ∷ xs)
    ≡ cond b (w x) 0 + sum_by (λ y. cond (p y) (w y) 0) xs)
    → sum_by w (cond b (x ∷ filter p xs) (filter p xs)) ≡ sum_by (λ y. cond (p y) (w y) 0) (x ∷ xs)) [
      | true ↦ λ e. omega (arith, sum_by-cons w x (filter p xs))
      | false ↦ λ e. omega arith
    ] cons

pub sum-flat_map : {X Y : Type 0} (h : X → List Y) (w : Y → ℕ) (xs : List X)
    → sum_by w (flat_map h xs) ≡ sum_by (λ x. sum_by w (h x)) xs
sum-flat_map h w [] = refl
sum-flat_map h w (x ∷ xs) =
    let e : sum_by w (flat_map h (x ∷ xs)) ≡ sum_by w (h x) + sum_by w (flat_map h xs) =
    ap (sum_by w) (flat_map-cons h x xs) ∙ sum_by-append w (h x) (flat_map h xs) in
    e ∙ ap (λ n. sum_by w (h x) + n) (sum-flat_map h w xs) ∙ sym (sum_by-cons (λ y. sum_by w (h y)) x xs)

-- sums by weights that agree are equal
pub sum-same : {X : Type 0} (v w : X → ℕ) → ((x : X) → v x ≡ w x) → (xs : List X) → sum_by v xs ≡ sum_by w xs
sum-same v w h [] = refl
sum-same v w h (x ∷ xs) = omega (arith, sum_by-cons v x xs, sum_by-cons w x xs, h x, sum-same v w h xs)

pub sum-both : {X : Type 0} (v w : X → ℕ) (xs : List X) → sum_by (λ x. v x + w x) xs ≡ sum_by v xs + sum_by w xs
sum-both v w [] = refl
sum-both v w (x ∷ xs) =
    omega (arith, sum_by-cons (λ x. v x + w x) x xs, sum_by-cons v x xs, sum_by-cons w x xs, sum-both v w xs)

-- ---- operations that preserve bags

pub same-refl : {X : Type 0} (xs : List X) → SameBag xs xs
same-refl xs = record { totals = λ w. refl }

pub same-sym : {X : Type 0} {xs ys : List X} → SameBag xs ys → SameBag ys xs
same-sym h = record { totals = λ w. sym (h.totals w) }

pub same-trans : {X : Type 0} {xs ys zs : List X} → SameBag xs ys → SameBag ys zs → SameBag xs zs
same-trans h k = record { totals = λ w. h.totals w ∙ k.totals w }

pub same-map : {X Y : Type 0} (g : X → Y) {xs ys : List X} → SameBag xs ys → SameBag (map g xs) (map g ys)
same-map g {xs} {ys} h = record { totals = λ w. sum-map g w xs ∙ h.totals (λ x. w (g x)) ∙ sym (sum-map g w ys) }

pub same-filter : {X : Type 0} (p : X → Bool) {xs ys : List X} → SameBag xs ys → SameBag (filter p xs) (filter p ys)
same-filter p {xs} {ys} h =
    record { totals = λ w. sum-filter p w xs ∙ h.totals (λ x. cond (p x) (w x) 0) ∙ sym (sum-filter p w ys) }

pub same-append : {X : Type 0} {xs ys us vs : List X} → SameBag xs ys → SameBag us vs → SameBag (xs ++ us) (ys ++ vs)
same-append {X} {xs} {ys} {us} {vs} h k =
    record { totals = λ w. omega (arith, sum_by-append w xs us, sum_by-append w ys vs, h.totals w, k.totals w) }

pub same-flat_map : {X Y : Type 0} (f g : X → List Y) {xs ys : List X} → SameBag xs ys → ((x : X) → SameBag (f x) (g x))
    → SameBag (flat_map f xs) (flat_map g ys)
same-flat_map f g {xs} {ys} h k = record {
  totals = λ w.
      sum-flat_map f w xs ∙ h.totals (λ x. sum_by w (f x))
      ∙ sum-same (λ x. sum_by w (f x)) (λ x. sum_by w (g x)) (λ x. (k x).totals w) ys ∙ sym (sum-flat_map g w ys);
}

pub same-permutation : {X : Type 0} {xs ys : List X} → IsPermutation xs ys → SameBag xs ys
same-permutation {X} {xs} {ys} h = record { totals = λ w. sym (sum_by-IsPermutation w xs ys h) }
