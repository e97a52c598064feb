-- A fold depends only on the bag of a list, if the order of its steps does not matter.
use Rattle.std.proofs.Common.{◌≡◌, ◌<◌, ℕ, ◌+◌, Bool, true, false, cond, List, [], ◌∷◌, refl, sym, ap, ◌∙◌, arith}
use Rattle.std.proofs.Common.{subst, length}
use Rattle.std.specs.List.{sum_by}
use Rattle.std.proofs.lemmas.List.Sums.{sum_by-cons}
use Rattle.tql_spec.specs.Bag.{SameBag}

-- the fold of a list from the right
abbrev pub folded : {X R : Type 0} → (X → R → R) → R → List X → R
folded f z [] = z
folded f z (x ∷ xs) = f x (folded f z xs)

length_sum : {X : Type 0} (xs : List X) → length xs ≡ sum_by (λ x. 1) xs
length_sum [] = refl
length_sum {X} (x ∷ xs) = omega (arith, length_sum xs, sum_by-cons (λ (y : X). 1) x xs)

-- lists with the same bag have the same length
pub same_length : {X : Type 0} {xs ys : List X} → SameBag xs ys → length xs ≡ length ys
same_length {X} {xs} {ys} h = length_sum xs ∙ h.totals (λ x. 1) ∙ sym (length_sum ys)

-- a list with an element does not have the bag of the empty list
pub not_nothing : {X : Type 0} (x : X) (xs : List X) → SameBag (x ∷ xs) [] → ⊥
not_nothing {X} x xs h = omega (arith, h.totals (λ (y : X). 1), sum_by-cons (λ (y : X). 1) x xs)

-- the empty list does not have the bag of a list with an element
pub not_something : {X : Type 0} (x : X) (xs : List X) → SameBag [] (x ∷ xs) → ⊥
not_something {X} x xs h = omega (arith, h.totals (λ (y : X). 1), sum_by-cons (λ (y : X). 1) x xs)

-- an equivalence that each step preserves, and up to which two steps can be exchanged
pub record AreSteps {X R : Type 0} (E : R → R → Type 0) (f : X → R → R) : Type 1 where
  pub itself : (a : R) → E a a
  pub back : (a b : R) → E a b → E b a
  pub along : (a b c : R) → E a b → E b c → E a c
  pub kept : (x : X) (a b : R) → E a b → E (f x a) (f x b)
  pub exchanged : (x y : X) (a : R) → E (f x (f y a)) (f y (f x a))

module _ {X : Type 0} (test : X → X → Bool) (self : (x : X) → test x x ≡ true)
    (is : (x y : X) → test x y ≡ true → x ≡ y) where
  -- 1 for the elements equal to x, else 0
  abbrev mark : X → X → ℕ
  mark x y = cond (test x y) 1 0

  -- the list without its first element equal to x
  abbrev without : X → List X → List X
  without x [] = []
  without x (y ∷ ys) = cond (test x y) ys (y ∷ without x ys)

  -- a property of a list and the list without x, by cases: x is the first element or not
  module _ (P : List X → List X → Type 0) (x : X) where
    split_at : (y : X) (ys : List X) → 0 < sum_by (mark x) (y ∷ ys)
        → P (x ∷ ys) ys → (0 < sum_by (mark x) ys → P (y ∷ ys) (y ∷ without x ys)) → P (y ∷ ys) (without x (y ∷ ys))
    split_at y ys h here there = elim (test x y) as (λ b. test x y ≡ b → P (y ∷ ys) (cond b ys (y ∷ without x ys))) [
      | true ↦ λ e. subst (λ z. P (z ∷ ys) ys) (is x y e) here
      | false ↦ λ e.
          let k : mark x y ≡ 0 = ap (λ b. cond {A = ℕ} b 1 0) e in
          there (omega (arith, h, k, sum_by-cons (mark x) y ys))
    ] refl

  -- the weight of a list is that of x and of the list without x
  weighed : (w : X → ℕ) (x : X) (ys : List X) → 0 < sum_by (mark x) ys → sum_by w ys ≡ w x + sum_by w (without x ys)
  weighed w x [] h = absurd (omega (arith, h))
  weighed w x (y ∷ ys) h = split_at (λ all rest. sum_by w all ≡ w x + sum_by w rest) x y ys h
      (sum_by-cons w x ys)
      (λ k. omega (arith, weighed w x ys k, sum_by-cons w y ys, sum_by-cons w y (without x ys)))

  -- the first element of one list is in the other
  there_is : (x : X) (xs ys : List X) → SameBag (x ∷ xs) ys → 0 < sum_by (mark x) ys
  there_is x xs ys h =
      let k : mark x x ≡ 1 = ap (λ b. cond {A = ℕ} b 1 0) (self x) in
      omega (arith, h.totals (mark x), sum_by-cons (mark x) x xs, k)

  -- without that element, the lists have the same bag
  others : (x : X) (xs ys : List X) → SameBag (x ∷ xs) ys → SameBag xs (without x ys)
  others x xs ys h = record {
    totals = λ w. omega (arith, h.totals w, sum_by-cons w x xs, weighed w x ys (there_is x xs ys h));
  }

  module _ {R : Type 0} (E : R → R → Type 0) (f : X → R → R) (s : AreSteps E f) (z : R) where
    -- the removed element can be folded last
    taken : (x : X) (ys : List X) → 0 < sum_by (mark x) ys → E (folded f z ys) (f x (folded f z (without x ys)))
    taken x [] h = absurd (omega (arith, h))
    taken x (y ∷ ys) h = split_at (λ all rest. E (folded f z all) (f x (folded f z rest))) x y ys h
        (s.itself (f x (folded f z ys)))
        (λ k. let rest : R = folded f z (without x ys) in
        s.along (f y (folded f z ys)) (f y (f x rest)) (f x (f y rest))
        (s.kept y (folded f z ys) (f x rest) (taken x ys k)) (s.exchanged y x rest))

    -- lists with the same bag have equivalent folds
    pub same_fold : (xs ys : List X) → SameBag xs ys → E (folded f z xs) (folded f z ys)
    same_fold [] [] h = s.itself z
    same_fold [] (y ∷ ys) h = absurd (not_something y ys h)
    same_fold (x ∷ xs) ys h =
        s.along (f x (folded f z xs)) (f x (folded f z (without x ys))) (folded f z ys)
        (s.kept x (folded f z xs) (folded f z (without x ys)) (same_fold xs (without x ys) (others x xs ys h)))
        (s.back (folded f z ys) (f x (folded f z (without x ys))) (taken x ys (there_is x xs ys h)))
