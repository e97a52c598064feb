-- The digits of numbers, padded to a width.
use Rattle.std.proofs.Common.{◌≡◌, ℕ, ◌+◌, ◌-◌, ◌/◌, ◌%◌, ◌^◌, ◌<◌, ◌≤◌, List, [], ◌∷◌, ◌++◌, refl, sym, ◌∙◌, ap}
use Rattle.std.proofs.Common.{append_assoc, length, replicate, arith, decimal, inl, inr}
use Rattle.std.proofs.lemmas.List.{length-append, replicate-append-replicate}
use Rattle.std.proofs.lemmas.Bool.{cases_lt}
use Rattle.std.proofs.lemmas.Fmt.{decimal_digit, decimal_step}
use Rattle.tql_spec.specs.Text.{padded}

-- equal counts of leading zeros
zeros_at : (k m : ℕ) (ds : List ℕ) → k ≡ m → replicate k 48 ++ ds ≡ replicate m 48 ++ ds
zeros_at k m ds e = ap (λ (j : ℕ). replicate j 48 ++ ds) e

-- one digit
pub padded_digit : (n : ℕ) → n < 10 → padded 1 n ≡ (48 + n) ∷ []
padded_digit n h = rw (decimal_digit n h) refl

-- zero padded to a width is all zeros
padded_zero : (k : ℕ) → 1 ≤ k → padded k 0 ≡ replicate k 48
padded_zero k h =
    let zero_digit : decimal 0 ≡ 48 ∷ [] = decimal_digit 0 (omega arith) in
    rw zero_digit (zeros_at (k - 1) (k - 1) (48 ∷ []) refl ∙ replicate-append-replicate (k - 1) 1 48
    ∙ ap (λ (j : ℕ). replicate j 48) (omega arith))

-- one more digit, for a number of one digit
padded_small : (k j n : ℕ) → 1 ≤ k → j ≡ k + 1 → n < 10 → padded j n ≡ padded k 0 ++ (48 + n) ∷ []
padded_small k j n some next h =
    let e : padded j n ≡ replicate k 48 ++ (48 + n) ∷ [] =
    rw (decimal_digit n h) (zeros_at (j - 1) k ((48 + n) ∷ []) (omega arith)) in
    e ∙ sym (ap (λ (l : List ℕ). l ++ (48 + n) ∷ []) (padded_zero k some))

-- one more digit, for a number of several digits
padded_large : (k j n : ℕ) → j ≡ k + 1 → 10 ≤ n → n < 2 ^ 64 → padded j n ≡ padded k (n / 10) ++ (48 + n % 10) ∷ []
padded_large k j n next h b =
    let before : List ℕ = decimal (n / 10) in
    let digit : List ℕ = (48 + n % 10) ∷ [] in
    rw (decimal_step n h b)
    (zeros_at (j - length (before ++ digit)) (k - length before) (before ++ digit)
    (rw (length-append before digit) (omega arith))
    ∙ sym (append_assoc (replicate (k - length before) 48) before digit))

-- one more digit
padded_more : (k j n : ℕ) → 1 ≤ k → j ≡ k + 1 → n < 2 ^ 64 → padded j n ≡ padded k (n / 10) ++ (48 + n % 10) ∷ []
padded_more k j n some next b = elim (cases_lt n 10) [
  | inl small ↦
      let none : n / 10 ≡ 0 = omega arith in
      let same : n % 10 ≡ n = omega arith in
      rw (none, same) (padded_small k j n some next small)
  | inr large ↦ padded_large k j n next large b
]

-- two digits
pub padded_two : (n : ℕ) → n < 100 → padded 2 n ≡ (48 + n / 10 % 10) ∷ (48 + n % 10) ∷ []
padded_two n h =
    padded_more 1 2 n (omega arith) (omega arith) (omega arith)
    ∙ ap (λ (l : List ℕ). l ++ (48 + n % 10) ∷ []) (padded_digit (n / 10) (omega arith))
    ∙ ap (λ (k : ℕ). (48 + k) ∷ (48 + n % 10) ∷ []) (omega arith)

-- two more digits
padded_pair : (k j n : ℕ) → 1 ≤ k → j ≡ k + 2 → n < 2 ^ 64
    → padded j n ≡ padded k (n / 100) ++ ((48 + n / 10 % 10) ∷ (48 + n % 10) ∷ [])
padded_pair k j n some next b =
    let tens : n / 10 / 10 ≡ n / 100 = omega arith in
    padded_more (k + 1) j n (omega arith) (omega arith) b
    ∙ ap (λ (l : List ℕ). l ++ (48 + n % 10) ∷ []) (padded_more k (k + 1) (n / 10) some refl (omega arith))
    ∙ append_assoc (padded k (n / 10 / 10)) ((48 + n / 10 % 10) ∷ []) ((48 + n % 10) ∷ [])
    ∙ ap (λ (m : ℕ). padded k m ++ ((48 + n / 10 % 10) ∷ (48 + n % 10) ∷ [])) tens

-- four digits
pub padded_four : (n : ℕ) → n < 10000
    → padded 4 n ≡ (48 + n / 1000 % 10) ∷ (48 + n / 100 % 10) ∷ (48 + n / 10 % 10) ∷ (48 + n % 10) ∷ []
padded_four n h =
    let thousands : n / 100 / 10 ≡ n / 1000 = omega arith in
    padded_pair 2 4 n (omega arith) (omega arith) (omega arith)
    ∙ ap (λ (l : List ℕ). l ++ ((48 + n / 10 % 10) ∷ (48 + n % 10) ∷ [])) (padded_two (n / 100) (omega arith))
    ∙ ap (λ (m : ℕ). (48 + m % 10) ∷ (48 + n / 100 % 10) ∷ (48 + n / 10 % 10) ∷ (48 + n % 10) ∷ []) thousands

-- six digits
pub padded_six : (n : ℕ) → n < 1000000
    → padded 6 n ≡ (48 + n / 100000 % 10) ∷ (48 + n / 10000 % 10) ∷ (48 + n / 1000 % 10) ∷ (48 + n / 100 % 10) ∷
    (48 + n / 10 % 10) ∷ (48 + n % 10) ∷ []
padded_six n h =
    let fifth : n / 100 / 1000 ≡ n / 100000 = omega arith in
    let fourth : n / 100 / 100 ≡ n / 10000 = omega arith in
    let third : n / 100 / 10 ≡ n / 1000 = omega arith in
    padded_pair 4 6 n (omega arith) (omega arith) (omega arith)
    ∙ ap (λ (l : List ℕ). l ++ ((48 + n / 10 % 10) ∷ (48 + n % 10) ∷ [])) (padded_four (n / 100) (omega arith))
    ∙ (rw (fifth, fourth, third) refl)
