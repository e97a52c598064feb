-- Starts that do not decrease, from neighbour to neighbour.
use Rattle.std.specs.Prelude.{◌≡◌, ◌↔◌, refl, ℕ, zero, suc, ◌+◌, ◌-◌, ◌<◌, Bool, true, false, IsTrue, List, [], ◌∷◌}
use Rattle.std.specs.Prelude.{length, ◌≤ℤ◌, int_le}
use Rattle.std.specs.List.{IsAllAdjacentAnswer}
use Rattle.std.proofs.Common.{arith, get_or, subst}
use Rattle.std.proofs.lemmas.Int.{ints}
use Rattle.tql_period.specs.declared.period.Period as code
use Rattle.tql_period.specs.Points.{StartsRise}

-- each part and the next are in order
pub record NextRises (parts : List code.Period) : Type 0 where
  pub at : (k : ℕ) (d : code.Period) → k + 1 < length parts → (get_or parts k d).start ≤ℤ (get_or parts (k + 1) d).start

-- the same over n more neighbours
along : (parts : List code.Period) → NextRises parts → (i n : ℕ) (d : code.Period) → i + (n + 1) < length parts
    → (get_or parts i d).start ≤ℤ (get_or parts (i + (n + 1)) d).start
along parts h i zero d l = h.at i d (omega (arith, l))
along parts h i (suc n) d l =
    let t = along parts h i n d (omega (arith, l)) in
    let s = h.at (i + (n + 1)) d (omega (arith, l)) in
    let e : i + (n + 1) + 1 ≡ i + (suc n + 1) = omega arith in
    let u : (get_or parts (i + (n + 1)) d).start ≤ℤ (get_or parts (i + (suc n + 1)) d).start =
    subst (λ k. (get_or parts (i + (n + 1)) d).start ≤ℤ (get_or parts k d).start) e s in
    omega (arith, ints, t, u)

pub rises : (parts : List code.Period) → NextRises parts → StartsRise parts
rises parts h i j d l m =
    let e : i + ((j - (i + 1)) + 1) ≡ j = omega (arith, l) in
    subst (λ k. (get_or parts i d).start ≤ℤ (get_or parts k d).start) e
    (along parts h i (j - (i + 1)) d (omega (arith, l, m)))

pub next_rises : (parts : List code.Period) → StartsRise parts → NextRises parts
next_rises parts h = record { at = λ k d l. h k (k + 1) d (omega arith) l }

-- the result of a test of neighbours
pub neighbours : (parts : List code.Period) (r : Bool)
    → IsAllAdjacentAnswer (λ (x y : code.Period) b. b ≡ int_le x.start y.start) parts r → IsTrue r ↔ StartsRise parts
neighbours parts true h =
    (λ k. rises parts (record { at = λ k d l. let e = h k d l in grind (arith, ints) }), λ k. refl)
neighbours [] false h = absurd (omega (arith, h.1))
neighbours (x ∷ xs) false h = (
  λ k. absurd (cc),
  λ k. let e = h.2 x in let l = (next_rises (x ∷ xs) k).at h.0 x h.1 in absurd
      (grind (arith, ints)),
)
