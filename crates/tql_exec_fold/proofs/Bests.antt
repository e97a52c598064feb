-- The least or greatest value, and the sum, computed from the left.
use Rattle.std.specs.Prelude.{◌≡◌, refl, ℕ, Bool, true, false, List, [], ◌∷◌, if◌then◌else◌, ℤ, pos, ◌+ℤ◌, Option}
use Rattle.std.specs.Prelude.{Some, ◌+◌, ◌^◌, ◌<◌, ◌≤◌, neg_ℤ, ◌≤ℤ◌, ◌<ℤ◌, length}
use Rattle.std.proofs.Common.{sym, ap, ◌∙◌, arith}
use Rattle.std.proofs.lemmas.Int.{ints}
use Rattle.std.proofs.lemmas.Bool.Decides.{nat_tests}
use Rattle.std.specs.Cmp.{IsStrictWeakOrder}
use Rattle.std.specs.Ordering.{is_lt, is_gt, ordering_reverse}
use Rattle.std.specs.declared.cmp.Ordering.{Ordering}
use Rattle.std.specs.declared.cmp.Ordering.TheVariants.{Less, Equal, Greater}
use Rattle.std.proofs.lemmas.List.Sorted.{ranks_by}
use Rattle.tql_spec.specs.Datum.{Datum, order, is_null, fits, Row}
use Rattle.tql_spec.specs.Expression.{Expr, Function, Aggregate, eval, best, present, aggregate}
use Rattle.tql_spec.proofs.Orders.{order-total}
use Rattle.tql_exec_fold.specs.Folds.{is_better, the_better, so_far, IsWithin, of_present}

-- ---- the least or greatest value

above_back : (o : Ordering) → is_gt o ≡ is_lt (ordering_reverse o)
above_back Less = refl
above_back Equal = refl
above_back Greater = refl

above_is_below : (a b : Datum) → is_gt (order a b) ≡ is_lt (order b a)
above_is_below a b = above_back (order a b) ∙ ap is_lt (sym (order-total.antisymm b a))

ranks : (greatest : Bool) → IsStrictWeakOrder (is_better greatest)
ranks false = ranks_by order-total (λ d. d)
ranks true = let o = ranks_by order-total (λ (d : Datum). d) in record {
  one_way = λ x y h. above_is_below y x ∙ o.one_way y x (sym (above_is_below x y) ∙ h);
  chain = λ x y z h k. above_is_below x z ∙ o.chain z y x (sym (above_is_below y z) ∙ k) (sym (above_is_below x y) ∙ h);
}

module _ (lt : Datum → Datum → Bool) (o : IsStrictWeakOrder lt) where
  -- the better of two values
  abbrev of_two : Datum → Datum → Datum
  of_two a b = if lt b a then b else a

  -- being better is transitive
  beats : (m b a : Datum) (r : Bool) → lt m b ≡ true → lt b a ≡ true → lt m a ≡ r → r ≡ true
  beats m b a true h k e = refl
  beats m b a false h k e = let no = o.chain m a b e (o.one_way b a k) in cc

  chosen : (a b m : Datum) (p q r : Bool) → lt m b ≡ p → lt b a ≡ q → lt m a ≡ r
      → of_two a (of_two b m) ≡ of_two (of_two a b) m
  chosen a b m true true r e f g = let g' : lt m a ≡ true = g ∙ beats m b a r e f g in simp (e, f, g')
  chosen a b m true false r e f g = simp (e, f)
  chosen a b m false true r e f g = simp (e, f, g)
  chosen a b m false false r e f g = let g' : lt m a ≡ false = o.chain m b a e f in simp (e, f, g')

  first_two : (a b : Datum) (vs : List Datum) → best lt (of_two a b ∷ vs) ≡ best lt (a ∷ b ∷ vs)
  first_two a b [] = refl
  first_two a b (w ∷ ws) = let m = best lt (w ∷ ws) in sym (chosen a b m (lt m b) (lt b a) (lt m a) refl refl refl)

-- one more value
pub one_better : (greatest : Bool) (a b : Datum) (vs : List Datum)
    → best (is_better greatest) (present (the_better greatest a b ∷ vs)) ≡ best (is_better greatest)
    (present (a ∷ b ∷ vs))
one_better greatest a b vs = by_null (is_null a) (is_null b) (is_better greatest b a) refl refl refl
  where
    by_null : (p q r : Bool) → is_null a ≡ p → is_null b ≡ q → is_better greatest b a ≡ r
        → best (is_better greatest) (present (the_better greatest a b ∷ vs)) ≡ best (is_better greatest)
        (present (a ∷ b ∷ vs))
    by_null true true r e f g = simp (e, f, g)
    by_null true false r e f g = simp (e, f, g)
    by_null false true r e f g = simp (e, f, g)
    by_null false false true e f g =
        simp (e, f, g) (ap (λ d. best (is_better greatest) (d ∷ present vs)) (sym (simp g))
        ∙ first_two (is_better greatest) (ranks greatest) a b (present vs))
    by_null false false false e f g =
        simp (e, f, g) (ap (λ d. best (is_better greatest) (d ∷ present vs)) (sym (simp g))
        ∙ first_two (is_better greatest) (ranks greatest) a b (present vs))

-- ---- sums

-- adding a number of 64 bits
pub next_within : (n : ℕ) (s : Option ℤ) (m r : ℤ) → IsWithin n s → neg_ℤ (pos (2 ^ 63)) ≤ℤ m → m <ℤ pos (2 ^ 63)
    → r ≡ so_far s +ℤ m → IsWithin (n + 1) (Some r)
next_within n s m r h low high e = record {
  above = omega (arith, ints, h.above, low, e);
  below = omega (arith, ints, h.below, high, e);
}

-- ---- counts

fits_small : (n : ℕ) → n < 2 ^ 63 → fits (pos n) ≡ true
fits_small n h = grind (arith, nat_tests)

pub too_great : (n : ℕ) → 2 ^ 63 ≤ n → fits (pos n) ≡ false
too_great n h = grind (arith, nat_tests)

-- an aggregate over a number of rows that fits in 64 bits
pub over_few : (f : Function) (e : Expr) (rows : List Row) (row : Row) (o : Option Datum) → length rows < 2 ^ 63
    → o ≡ of_present (aggregate f) e rows → o ≡ eval rows row (Aggregate f e)
over_few f e rows row o few is = is ∙ sym (simp (fits_small (length rows) few))
