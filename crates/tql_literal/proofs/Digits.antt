-- Digits, read as the number that they represent.
use Rattle.std.proofs.Common.{◌≡◌, ℕ, zero, suc, ◌+◌, ◌-◌, ◌*◌, ◌/◌, ◌%◌, ◌^◌, ◌<◌, ◌≤◌, List, [], ◌∷◌, ◌++◌, true}
use Rattle.std.proofs.Common.{refl, sym, ◌∙◌, ap, arith, length, take, drop, decimal, subst}
use Rattle.std.proofs.lemmas.Fmt.{decimal_by_steps}
use Rattle.std.specs.Prelude.{◌==◌, ◌&&◌, Some}
use Rattle.std.specs.List.{list_all}
use Rattle.tql_spec.specs.Calendar.{digits_at, is_digit, number_from, number_of}
use Rattle.tql_result_laws.proofs.Cuts.{and_both}
use Rattle.tql_result_laws.proofs.Words.{digit_passes}

-- ---- k digits at a position

-- the digits at a position
digits_here : (bs : List ℕ) (i k : ℕ) (part : List ℕ) → take k (drop i bs) ≡ part → list_all is_digit part ≡ true
    → (length part == k) ≡ true → digits_at bs i k ≡ Some (number_of part)
digits_here bs i k part is digits long = rw (is, digits, long) refl

-- two of them
pub two_here : (bs : List ℕ) (i n : ℕ) → n < 100
    → take 2 (drop i bs) ≡ (48 + n / 10 % 10) ∷ (48 + n % 10) ∷ [] → digits_at bs i 2 ≡ Some n
two_here bs i n h is =
    let tens = digit_passes (n / 10 % 10) (omega arith) in
    let ones = digit_passes (n % 10) (omega arith) in
    digits_here bs i 2 ((48 + n / 10 % 10) ∷ (48 + n % 10) ∷ []) is (and_both _ _ tens (and_both _ _ ones refl)) refl
    ∙ ap Some (omega arith)

-- four of them
pub four_here : (bs : List ℕ) (i n : ℕ) → n < 10000
    → take 4 (drop i bs)
    ≡ (48 + n / 1000 % 10) ∷ (48 + n / 100 % 10) ∷ (48 + n / 10 % 10) ∷ (48 + n % 10) ∷ []
    → digits_at bs i 4 ≡ Some n
four_here bs i n h is =
    let thousands = digit_passes (n / 1000 % 10) (omega arith) in
    let hundreds = digit_passes (n / 100 % 10) (omega arith) in
    let tens = digit_passes (n / 10 % 10) (omega arith) in
    let ones = digit_passes (n % 10) (omega arith) in
    digits_here bs i 4 ((48 + n / 1000 % 10) ∷ (48 + n / 100 % 10) ∷ (48 + n / 10 % 10) ∷ (48 + n % 10) ∷ []) is
    (and_both _ _ thousands (and_both _ _ hundreds (and_both _ _ tens (and_both _ _ ones refl)))) refl
    ∙ ap Some (omega arith)

-- ---- the decimal digits of a number

-- one more digit
number_more : (n : ℕ) (ds : List ℕ) (b : ℕ) → number_from n (ds ++ b ∷ []) ≡ 10 * number_from n ds + (b - 48)
number_more n [] b = refl
number_more n (d ∷ ds) b = number_more (10 * n + (d - 48)) ds b

last_digit : (n : ℕ) (ds : List ℕ) → number_of ds ≡ n / 10 → number_of (ds ++ (48 + n % 10) ∷ []) ≡ n
last_digit n ds h =
    let more = number_more 0 ds (48 + n % 10) in
    more ∙ ap (λ k. 10 * k + (48 + n % 10 - 48)) h ∙ omega arith

-- the decimal digits of a number are read as that number
pub decimal_read : (n : ℕ) → n < 2 ^ 64 → number_of (decimal n) ≡ n
decimal_read n h =
    decimal_by_steps (λ m ds. number_of ds ≡ m) (λ m small. omega arith) (λ m ds ten k. last_digit m ds k) n h
