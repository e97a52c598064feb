-- Truth values, and tests of all or some elements of a list.
use Rattle.std.proofs.Common.{◌≡◌, ◌∙◌, refl, sym, ap, Bool, true, false, ◌&&◌, cond, List, [], ◌∷◌}
use Rattle.std.specs.Prelude.{◌||◌, filter}
use Rattle.std.specs.List.{list_all, list_any, take_while}
use Rattle.std.proofs.lemmas.Bool.{and_parts}
use Rattle.std.proofs.lemmas.List.Sums.{take_while-cons}
use Rattle.tql_spec.proofs.Members.{by_bool}

pub and_true : (a : Bool) → (a && true) ≡ a
and_true true = refl
and_true false = refl

pub and_back : (a b : Bool) → (a && b) ≡ (b && a)
and_back true b = sym (and_true b)
and_back false true = refl
and_back false false = refl

pub and_three : (a b c : Bool) → ((a && b) && c) ≡ (a && (b && c))
and_three true b c = refl
and_three false b c = refl

pub and_swap : (a b c : Bool) → (a && (b && c)) ≡ (b && (a && c))
and_swap true b c = refl
and_swap false true c = refl
and_swap false false c = refl

pub or_true : (a : Bool) → (a || true) ≡ true
or_true true = refl
or_true false = refl

pub or_left : (a b : Bool) → a ≡ true → (a || b) ≡ true
or_left true b h = refl
or_left false b h = absurd (cc)

pub or_right : (a b : Bool) → b ≡ true → (a || b) ≡ true
or_right true b h = refl
or_right false b h = h

pub or_false : (a b : Bool) → a ≡ false → b ≡ false → (a || b) ≡ false
or_false true b h k = absurd (cc)
or_false false b h k = k

module _ {A : Type 0} (p : A → Bool) where
  -- no element passes a test that none passes
  pub none_pass : ((x : A) → p x ≡ false) → (xs : List A) → list_any p xs ≡ false
  none_pass h [] = refl
  none_pass h (x ∷ xs) = or_false (p x) (list_any p xs) (h x) (none_pass h xs)

  -- all elements are kept that all pass
  pub filter_all : (xs : List A) → list_all p xs ≡ true → filter p xs ≡ xs
  filter_all [] h = refl
  filter_all (x ∷ xs) h =
      let k = and_parts (p x) (list_all p xs) h in
      ap (λ b. cond b (x ∷ filter p xs) (filter p xs)) k.0 ∙ ap (λ ys. x ∷ ys) (filter_all xs k.1)

  -- all elements are taken if all pass
  pub taken_all : (xs : List A) → list_all p xs ≡ true → take_while p xs ≡ xs
  taken_all [] h = refl
  taken_all (x ∷ xs) h =
      let k = and_parts (p x) (list_all p xs) h in
      take_while-cons p x xs ∙ ap (λ b. cond b (x ∷ take_while p xs) []) k.0 ∙ ap (λ ys. x ∷ ys) (taken_all xs k.1)

  -- what all elements pass, all kept elements pass
  pub all_kept : (q : A → Bool) (xs : List A) → list_all q xs ≡ true → list_all q (filter p xs) ≡ true
  all_kept q [] h = refl
  all_kept q (x ∷ xs) h = by_bool (p x)
      (λ e. ap (λ b. list_all q (cond b (x ∷ filter p xs) (filter p xs))) e
      ∙ ap (λ b. b && list_all q (filter p xs)) (and_parts (q x) (list_all q xs) h).0
      ∙ all_kept q xs (and_parts (q x) (list_all q xs) h).1)
      (λ e. ap (λ b. list_all q (cond b (x ∷ filter p xs) (filter p xs))) e
      ∙ all_kept q xs (and_parts (q x) (list_all q xs) h).1)

  -- if all elements pass a test, and what passes it passes another, all pass the other
  pub all_pass : (q : A → Bool) → ((x : A) → p x ≡ true → q x ≡ true) → (xs : List A) → list_all p xs ≡ true
      → list_all q xs ≡ true
  all_pass q f [] h = refl
  all_pass q f (x ∷ xs) h =
      let k = and_parts (p x) (list_all p xs) h in
      ap (λ b. b && list_all q xs) (f x k.0) ∙ all_pass q f xs k.1

-- some element passes one of two tests if one passes the first, or one the second
pub any_either : {A : Type 0} (p q : A → Bool) (xs : List A)
    → list_any (λ x. p x || q x) xs ≡ (list_any p xs || list_any q xs)
any_either p q [] = refl
any_either p q (x ∷ xs) =
    ap (λ b. (p x || q x) || b) (any_either p q xs) ∙ mixed (p x) (q x) (list_any p xs) (list_any q xs)
  where
    mixed : (a b c d : Bool) → ((a || b) || (c || d)) ≡ ((a || c) || (b || d))
    mixed true b c d = refl
    mixed false true true d = refl
    mixed false true false d = refl
    mixed false false c d = refl
