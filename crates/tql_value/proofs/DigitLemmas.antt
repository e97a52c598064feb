-- The numbers that digits spell.
use Rattle.std.proofs.Common.{◌≡◌, ℕ, ◌+◌, ◌-◌, ◌*◌, ◌^◌, ◌<◌, ◌≤◌, Bool, true, false, ◌&&◌, List, [], ◌∷◌, ◌++◌}
use Rattle.std.proofs.Common.{length, take, get_or, length-take, refl, sym, ◌∙◌, arith}
use Rattle.std.proofs.Math.Nat.{mul-le-mul_right, pow-suc, pow-le-pow_right}
use Rattle.std.proofs.lemmas.Bool.Decides.{nat_tests}
use Rattle.std.proofs.lemmas.List.{take_more}
use Rattle.std.proofs.lemmas.List.Folds.{list_all_more}
use Rattle.std.specs.List.{list_all}
use Rattle.tql_spec.specs.Calendar.{is_digit, number_from, number_of}

-- one more digit
pub number_from-push : (n : ℕ) (bs : List ℕ) (b : ℕ) → number_from n (bs ++ b ∷ []) ≡ number_from n bs * 10 + (b - 48)
number_from-push n [] b = omega arith
number_from-push n (a ∷ bs) b = number_from-push (10 * n + (a - 48)) bs b

pub number_of-more : (bs : List ℕ) (i : ℕ) → i < length bs
    → number_of (take (i + 1) bs) ≡ number_of (take i bs) * 10 + (get_or bs i 0 - 48)
number_of-more bs i h = rw (take_more bs i 0 h) (number_from-push 0 (take i bs) (get_or bs i 0))

both : (a b : Bool) → (a && b) ≡ true → (a ≡ true) × (b ≡ true)
both true b h = (refl, h)
both false b h = cc

scaled : (n k p : ℕ) → k ≤ 9 → (10 * n + k + 1) * p ≤ (n + 1) * (p * 10)
scaled n k p h = grind (arith, mul-le-mul_right)

-- n digits spell a number below the n-th power of ten
number_from-below : (n : ℕ) (bs : List ℕ) → list_all is_digit bs ≡ true → number_from n bs < (n + 1) * 10 ^ length bs
number_from-below n [] h = omega arith
number_from-below n (b ∷ bs) h =
    let here = both (is_digit b) (list_all is_digit bs) h in
    let small : b - 48 ≤ 9 = (let d : is_digit b ≡ true = here.0 in grind (arith, nat_tests)) in
    let rest = number_from-below (10 * n + (b - 48)) bs here.1 in
    let room = scaled n (b - 48) (10 ^ length bs) small in
    rw (pow-suc 10 (length bs)) (omega arith)

pub number_of-below : (bs : List ℕ) → list_all is_digit bs ≡ true → number_of bs < 10 ^ length bs
number_of-below bs h = let all = number_from-below 0 bs h in omega arith

-- at most k digits
pub number_of-below_power : (bs : List ℕ) (k : ℕ) → length bs ≤ k → list_all is_digit bs ≡ true → number_of bs < 10 ^ k
number_of-below_power bs k short h =
    let more : 10 ^ length bs ≤ 10 ^ k = pow-le-pow_right (omega arith) short in
    let all = number_of-below bs h in omega arith

-- the invariant of a loop over digits
pub record SpellsFront (number i : ℕ) (bs : List ℕ) : Type 0 where
  pub spelt : number ≡ number_of (take i bs)
  pub digits : list_all is_digit (take i bs) ≡ true

pub SpellsFront-below : (number i k : ℕ) (bs : List ℕ) → i ≤ k → SpellsFront number i bs → number < 10 ^ k
SpellsFront-below number i k bs short h =
    rw h.spelt (number_of-below_power (take i bs) k (rw length-take (omega arith)) h.digits)

pub SpellsFront-more : (number i : ℕ) (bs : List ℕ) → i < length bs → SpellsFront number i bs
    → is_digit (get_or bs i 0) ≡ true → SpellsFront (number * 10 + (get_or bs i 0 - 48)) (i + 1) bs
SpellsFront-more number i bs lt h d = record {
  spelt = rw h.spelt (sym (number_of-more bs i lt));
  digits = list_all_more is_digit bs i 0 lt ∙ rw (h.digits, d) refl;
}
