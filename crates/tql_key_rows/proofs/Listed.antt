-- Membership of a number in a list, by binary search and in any order.
use Rattle.std.proofs.Common.{◌≡◌, ◌≤◌, ◌<◌, refl, sym, ap, ◌∙◌, ℕ, zero, suc, Bool, true, false, List, [], ◌∷◌, length}
use Rattle.std.proofs.Common.{get_or, nat_eq, arith, IsPermutation}
use Rattle.std.specs.Prelude.{◌||◌, nat_lt, Result, Ok, Err, is_ok, MatchResult}
use Rattle.std.specs.List.{list_any}
use Rattle.std.proofs.lemmas.Bool.Decides.{nat_tests}
use Rattle.std.proofs.lemmas.List.Sorted.{list_any-IsPermutation}
use Rattle.tql_spec.proofs.Members.{by_bool}
use Rattle.tql_store.specs.StoreModel.{is_among}

-- whether one of the numbers is this one
pub some_is : (i : ℕ) (js : List ℕ) → list_any (nat_eq i) js ≡ is_among i js
some_is i [] = refl
some_is i (j ∷ js) = ap (λ (b : Bool). nat_eq i j || b) (some_is i js)

-- it does not depend on the order
pub among_either : (i : ℕ) (xs ys : List ℕ) → IsPermutation xs ys → is_among i ys ≡ is_among i xs
among_either i xs ys p =
    sym (some_is i ys) ∙ sym (list_any-IsPermutation (nat_eq i) xs ys p) ∙ some_is i xs

itself : (a b : ℕ) → a ≡ b → nat_eq b a ≡ true
itself a b e = grind (arith, nat_tests)

here : (x : ℕ) (xs : List ℕ) (i : ℕ) → i < length xs → get_or xs i 0 ≡ x → is_among x xs ≡ true
here x [] i l e = absurd (omega (arith, l))
here x (y ∷ xs) zero l e = ap (λ b. b || is_among x xs) (itself y x e)
here x (y ∷ xs) (suc i) l e = ap (λ b. nat_eq x y || b) (here x xs i (omega (arith, l)) e) ∙ yes (nat_eq x y)
  where
    yes : (b : Bool) → b || true ≡ true
    yes true = refl
    yes false = refl

nowhere : (x : ℕ) (xs : List ℕ) → ((k : ℕ) → k < length xs → get_or xs k 0 ≡ x → ⊥) → is_among x xs ≡ false
nowhere x [] h = refl
nowhere x (y ∷ xs) h =
    ap (λ b. b || is_among x xs) (other (nat_eq x y) refl) ∙ nowhere x xs (λ k l. h (suc k) (omega (arith, l)))
  where
    other : (b : Bool) → nat_eq x y ≡ b → nat_eq x y ≡ false
    other false e = e
    other true e = absurd (h 0 (omega arith) (grind (arith, nat_tests, e)))

-- the answer of a binary search
pub search_tells : (xs : List ℕ) (x : ℕ) (r : Result ℕ ℕ)
    → MatchResult r (λ i. (i < length xs) × (get_or xs i 0 ≡ x)) (λ i. (i ≤ length xs)
    × ((k : ℕ) → k < i → get_or xs k 0 < x) × ((k : ℕ) → i ≤ k → k < length xs → x < get_or xs k 0))
    → is_ok r ≡ is_among x xs
search_tells xs x (Ok i) h = sym (here x xs i h.0 h.1)
search_tells xs x (Err i) h = sym (nowhere x xs (λ k l e. by_bool (nat_lt k i)
    (λ b. let less : k < i = grind (arith, nat_tests, b) in omega (arith, h.1 k less, e))
    (λ b. let more : i ≤ k = grind (arith, nat_tests, b) in omega (arith, h.2 k more l, e))))
