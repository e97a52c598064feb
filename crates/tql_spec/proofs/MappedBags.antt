-- Sums over the values that a function gives for the elements of a list, and over the elements without a value.
use Rattle.std.proofs.Common.{◌≡◌, ◌<◌, ℕ, ◌+◌, List, [], ◌∷◌, refl, sym, ap, ◌∙◌, arith}
use Rattle.std.specs.Prelude.{Option, Some, None}
use Rattle.std.specs.List.{sum_by}
use Rattle.std.proofs.lemmas.List.Sums.{sum_by-cons}
use Rattle.tql_spec.specs.Words.{map_all}
use Rattle.tql_spec.proofs.Steady.{front_is}

-- 1 for an element without a value, else 0
abbrev pub lack_of : {B : Type 0} → Option B → ℕ
lack_of None = 1
lack_of (Some y) = 0

-- the weight of an element's value; 0 if there is none
abbrev pub weight_of : {B : Type 0} → (B → ℕ) → Option B → ℕ
weight_of w None = 0
weight_of w (Some y) = w y

module _ {A B : Type 0} (f : A → Option B) where
  -- the weight of all values is the sum over the elements
  pub all_total : (w : B → ℕ) (xs : List A) (ys : List B) → map_all f xs ≡ Some ys
      → sum_by w ys ≡ sum_by (λ x. weight_of w (f x)) xs
  all_total w [] ys e = let q : [] ≡ ys = cc in ap (sum_by w) (sym q)
  all_total w (x ∷ xs) ys e =
      let k = front_is (f x) (map_all f xs) ys e in
      ap (sum_by w) k.whole
      ∙ sum_by-cons w k.head k.tail
      ∙ ap (λ n. w k.head + n) (all_total w xs k.tail k.more)
      ∙ ap (λ o. weight_of w o + sum_by (λ z. weight_of w (f z)) xs) (sym k.one)
      ∙ sym (sum_by-cons (λ z. weight_of w (f z)) x xs)

  -- if all elements have a value, none lacks one
  pub none_lacks : (xs : List A) (ys : List B) → map_all f xs ≡ Some ys → sum_by (λ x. lack_of (f x)) xs ≡ 0
  none_lacks [] ys e = refl
  none_lacks (x ∷ xs) ys e =
      let k = front_is (f x) (map_all f xs) ys e in
      let later = none_lacks xs k.tail k.more in
      let here : lack_of (f x) ≡ 0 = ap lack_of k.one in
      omega (arith, sum_by-cons (λ z. lack_of (f z)) x xs, here, later)

  -- else some element lacks one: the step for one more element in front
  by_front : (x : A) (xs : List A) (o : Option B) (rest : Option (List B)) → f x ≡ o → map_all f xs ≡ rest
      → map_all f (x ∷ xs) ≡ None
      → (map_all f xs ≡ None → 0 < sum_by (λ z. lack_of (f z)) xs) → 0 < sum_by (λ z. lack_of (f z)) (x ∷ xs)
  by_front x xs None rest p q e later =
      let lack : lack_of (f x) ≡ 1 = ap lack_of p in
      omega (arith, sum_by-cons (λ z. lack_of (f z)) x xs, lack)
  by_front x xs (Some y) None p q e later =
      let more = later q in
      omega (arith, sum_by-cons (λ z. lack_of (f z)) x xs, more)
  by_front x xs (Some y) (Some ys) p q e later = absurd (cc)

  pub some_lacks : (xs : List A) → map_all f xs ≡ None → 0 < sum_by (λ x. lack_of (f x)) xs
  some_lacks [] e = absurd (cc)
  some_lacks (x ∷ xs) e = by_front x xs (f x) (map_all f xs) refl refl e (λ q. some_lacks xs q)
