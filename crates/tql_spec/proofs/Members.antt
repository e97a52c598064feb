-- Sums over members, and equality of rows.
use Rattle.std.proofs.Common.{◌≡◌, ◌≤◌, ◌<◌, ℕ, ◌+◌, Bool, true, false, cond, List, [], ◌∷◌, refl, sym, ap, ◌∙◌, arith}
use Rattle.std.proofs.Common.{inl, inr}
use Rattle.std.specs.Prelude.{◌⊎◌, ◌&&◌, ◌||◌, ℤ, ◌≤ℤ◌, ◌<ℤ◌, int_le, int_lt, ltb}
use Rattle.std.specs.Ordering.{int_eq, is_eq, nat_cmp}
use Rattle.std.specs.Cmp.{Equal-is, tied_itself}
use Rattle.std.specs.Cmp.Lexicographic.{slice_cmp, nat_list_cmp_total}
use Rattle.std.specs.List.{sum_by, list_any}
use Rattle.std.proofs.lemmas.Bool.Decides.{Decides-int_eq, nat_tests}
use Rattle.std.proofs.lemmas.Int.{ints}
use Rattle.std.proofs.lemmas.List.Sums.{sum_by-cons}
use Rattle.std.proofs.lemmas.Map.Lookups.{exact_bytes}
use Rattle.tql_spec.specs.Bag.{In}
use Rattle.tql_spec.specs.Datum.{Datum, Null, Int, Text, Day, Moment, same, same_row}
use Rattle.tql_spec.specs.Definition.{Stamped, same_stamped}

pub by_bool : {P : Type 0} (b : Bool) → (b ≡ true → P) → (b ≡ false → P) → P
by_bool {P} b f g = elim b as (λ c. (c ≡ true → P) → (c ≡ false → P) → P) [
  | true ↦ λ y n. y refl
  | false ↦ λ y n. n refl
] f g

pub lt_tells : (a b : ℤ) → ((int_lt a b ≡ true) × (a <ℤ b)) ⊎ ((int_lt a b ≡ false) × (b ≤ℤ a))
lt_tells a b = by_bool (int_lt a b) (λ e. inl (e, grind (arith, ints))) (λ e. inr (e, grind (arith, ints)))

pub le_tells : (a b : ℤ) → ((int_le a b ≡ true) × (a ≤ℤ b)) ⊎ ((int_le a b ≡ false) × (b <ℤ a))
le_tells a b = by_bool (int_le a b) (λ e. inl (e, grind (arith, ints))) (λ e. inr (e, grind (arith, ints)))

-- ---- sums over members

pub sum-in : {X : Type 0} (v w : X → ℕ) (xs : List X) → ((x : X) → In x xs → v x ≡ w x) → sum_by v xs ≡ sum_by w xs
sum-in v w [] h = refl
sum-in v w (x ∷ xs) h =
    omega (arith, sum_by-cons v x xs, sum_by-cons w x xs, h x (inl refl), sum-in v w xs (λ y m. h y (inr m)))

pub sum-zero : {X : Type 0} (w : X → ℕ) (xs : List X) → ((x : X) → In x xs → w x ≡ 0) → sum_by w xs ≡ 0
sum-zero w [] h = refl
sum-zero w (x ∷ xs) h = omega (arith, sum_by-cons w x xs, h x (inl refl), sum-zero w xs (λ y m. h y (inr m)))

pub sum-least : {X : Type 0} (w : X → ℕ) (x : X) (xs : List X) → In x xs → w x ≤ sum_by w xs
sum-least w x [] m = absurd m
sum-least w x (y ∷ ys) (inl e) = omega (arith, sum_by-cons w y ys, ap w e)
sum-least w x (y ∷ ys) (inr m) = omega (arith, sum_by-cons w y ys, sum-least w x ys m)

-- ---- some member passes

any-step : (b : Bool) (n : ℕ) → (b || ltb 0 n) ≡ ltb 0 (cond b 1 0 + n)
any-step true n = grind (arith, nat_tests)
any-step false n = ap (ltb 0) (omega arith)

pub any-total : {X : Type 0} (p : X → Bool) (xs : List X) → list_any p xs ≡ ltb 0 (sum_by (λ x. cond (p x) 1 0) xs)
any-total p [] = refl
any-total p (x ∷ xs) = ap (λ b. p x || b) (any-total p xs) ∙ any-step (p x) _
    ∙ ap (ltb 0) (sym (sum_by-cons (λ y. cond (p y) 1 0) x xs))

-- ---- equality of rows

pub same-self : (a : Datum) → same a a ≡ true
same-self Null = refl
same-self (Int n) = (Decides-int_eq n n).1 refl
same-self (Text t) = ap is_eq (tied_itself nat_list_cmp_total t)
same-self (Day d) = (Decides-int_eq d d).1 refl
same-self (Moment m) = (Decides-int_eq m m).1 refl

pub same-is : (a b : Datum) → same a b ≡ true → a ≡ b
same-is Null Null e = refl
same-is (Int a) (Int b) e = ap Int ((Decides-int_eq a b).0 e)
same-is (Text a) (Text b) e = ap Text (exact_bytes a b ((Equal-is (slice_cmp nat_cmp a b)).0 e))
same-is (Day a) (Day b) e = ap Day ((Decides-int_eq a b).0 e)
same-is (Moment a) (Moment b) e = ap Moment ((Decides-int_eq a b).0 e)
same-is Null (Int b) e = cc
same-is Null (Text b) e = cc
same-is Null (Day b) e = cc
same-is Null (Moment b) e = cc
same-is (Int a) Null e = cc
same-is (Int a) (Text b) e = cc
same-is (Int a) (Day b) e = cc
same-is (Int a) (Moment b) e = cc
same-is (Text a) Null e = cc
same-is (Text a) (Int b) e = cc
same-is (Text a) (Day b) e = cc
same-is (Text a) (Moment b) e = cc
same-is (Day a) Null e = cc
same-is (Day a) (Int b) e = cc
same-is (Day a) (Text b) e = cc
same-is (Day a) (Moment b) e = cc
same-is (Moment a) Null e = cc
same-is (Moment a) (Int b) e = cc
same-is (Moment a) (Text b) e = cc
same-is (Moment a) (Day b) e = cc

pub both : (a b : Bool) → (a && b) ≡ true → (a ≡ true) × (b ≡ true)
both true b e = (refl, e)
both false b e = cc

pub same_row-self : (as' : List Datum) → same_row as' as' ≡ true
same_row-self [] = refl
same_row-self (a ∷ as') = ap (λ b. b && same_row as' as') (same-self a) ∙ same_row-self as'

pub same_row-is : (as' bs : List Datum) → same_row as' bs ≡ true → as' ≡ bs
same_row-is [] [] e = refl
same_row-is [] (b ∷ bs) e = cc
same_row-is (a ∷ as') [] e = cc
same_row-is (a ∷ as') (b ∷ bs) e =
    let h = both (same a b) (same_row as' bs) e in
    let x = same-is a b h.0 in
    let y = same_row-is as' bs h.1 in
    cc

pub same_stamped-self : (r : Stamped) → same_stamped r r ≡ true
same_stamped-self r = ap (λ b. b && int_eq r.start r.start) (same_row-self r.cells)
    ∙ (Decides-int_eq r.start r.start).1 refl

pub same_stamped-is : (a b : Stamped) → same_stamped a b ≡ true → a ≡ b
same_stamped-is a b e =
    let h = both (same_row a.cells b.cells) (int_eq a.start b.start) e in
    ap2 (same_row-is a.cells b.cells h.0) ((Decides-int_eq a.start b.start).0 h.1)
  where
    ap2 : a.cells ≡ b.cells → a.start ≡ b.start → a ≡ b
    ap2 p q = ap (λ (x : List Datum). record { cells = x; start = a.start }) p
        ∙ ap (λ (s : ℤ). record { cells = b.cells; start = s }) q

-- ---- a member that passes a test of rows

above : (n : ℕ) → 0 < n → ltb 0 n ≡ true
above n h = grind (arith, nat_tests)

zero_either : (b : Bool) → cond {A = ℕ} b 0 0 ≡ 0
zero_either true = refl
zero_either false = refl

pub picked : (q : Stamped → Bool) (r : Stamped) (rows : List Stamped) → In r rows
    → ltb 0 (sum_by (λ x. cond (q x) (cond (same_stamped r x) 1 0) 0) rows) ≡ q r
picked q r rows m = by_bool (q r)
    (λ e. above _ (one_at e (same_stamped-self r)
    (sum-least (λ x. cond (q x) (cond (same_stamped r x) 1 0) 0) r rows m)) ∙ sym e)
    (λ e. ap (ltb 0) (sum-zero (λ x. cond (q x) (cond (same_stamped r x) 1 0) 0) rows (λ x n. none e x)) ∙ sym e)
  where
    one_at : {n : ℕ} {a b : Bool} → a ≡ true → b ≡ true → cond a (cond {A = ℕ} b 1 0) 0 ≤ n → 0 < n
    one_at {n} {a} {b} e s h = grind (arith, e, s, h)

    none : q r ≡ false → (x : Stamped) → cond (q x) (cond {A = ℕ} (same_stamped r x) 1 0) 0 ≡ 0
    none e x = by_bool (same_stamped r x)
        (λ s. ap (λ b. cond b (cond {A = ℕ} (same_stamped r x) 1 0) 0) (ap q (sym (same_stamped-is r x s)) ∙ e))
        (λ s. ap (λ b. cond (q x) (cond {A = ℕ} b 1 0) 0) s ∙ zero_either (q x))
