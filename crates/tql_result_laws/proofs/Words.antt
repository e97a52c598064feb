-- The bytes of words: of numbers, dates, timestamps, NULL and bare headings.
use Rattle.std.proofs.Common.{◌≡◌, ℕ, zero, suc, ◌+◌, ◌-◌, ◌/◌, ◌%◌, ◌^◌, ◌<◌, List, [], ◌∷◌, ◌++◌, Bool, true, false}
use Rattle.std.proofs.Common.{refl, sym, ◌∙◌, ap, arith, replicate, decimal, length, get_or, inl, inr}
use Rattle.std.proofs.lemmas.Bool.{cases_Bool}
use Rattle.std.proofs.lemmas.Bool.Decides.{nat_tests}
use Rattle.std.proofs.lemmas.Fmt.{decimal_by_steps}
use Rattle.std.proofs.lemmas.List.Folds.{list_all-append}
use Rattle.std.specs.Prelude.{◌==◌, ◌&&◌, ◌||◌, not, nat_le, ℤ, pos, negsuc}
use Rattle.std.specs.List.{list_all}
use Rattle.std.specs.Fmt.{signed_decimal}
use Rattle.std.specs.Int.Signed.{mag}
use Rattle.tql_spec.specs.Calendar.{Parts, is_digit}
use Rattle.tql_spec.specs.Text.{is_upper, padded, date_text, fraction_text, time_text}
use Rattle.tql_result_laws.proofs.Cuts.{and_left, and_right, and_both}

-- a digit, a letter, `_`, a hyphen, a blank, a colon or a point
abbrev pub is_word : ℕ → Bool
is_word b =
    is_digit b || is_upper b || (nat_le 97 b && nat_le b 122) || (b == 45) || (b == 32) || (b == 58) || (b == 46)

-- a byte that is neither of these nor a quote
abbrev pub is_stop : ℕ → Bool
is_stop b = not (is_word b || (b == 39) || (b == 34))

-- no byte is both
pub apart : (b : ℕ) → is_word b ≡ true → is_stop b ≡ true → ⊥
apart b w s = let none = rw w at s in absurd (cc)

-- a weaker test
pub all_weaker : (p q : ℕ → Bool) → ((b : ℕ) → p b ≡ true → q b ≡ true) → (xs : List ℕ) → list_all p xs ≡ true
    → list_all q xs ≡ true
all_weaker p q weaker [] h = refl
all_weaker p q weaker (x ∷ xs) h =
    and_both (q x) (list_all q xs) (weaker x (and_left _ _ h)) (all_weaker p q weaker xs (and_right _ _ h))

pub all_append : (p : ℕ → Bool) (xs ys : List ℕ) → list_all p xs ≡ true → list_all p ys ≡ true
    → list_all p (xs ++ ys) ≡ true
all_append p xs ys h k = list_all-append p xs ys ∙ and_both (list_all p xs) (list_all p ys) h k

-- ---- digits

pub digit_passes : (k : ℕ) → k < 10 → is_digit (48 + k) ≡ true
digit_passes k h = grind (arith, nat_tests)

pub digit_is_word : (b : ℕ) → is_digit b ≡ true → is_word b ≡ true
digit_is_word b h = rw h refl

last_digit : (n : ℕ) (ds : List ℕ) → list_all is_digit ds ≡ true → list_all is_digit (ds ++ ((48 + n % 10) ∷ [])) ≡ true
last_digit n ds h =
    all_append is_digit ds ((48 + n % 10) ∷ []) h (and_both _ true (digit_passes (n % 10) (omega arith)) refl)

pub decimal_digits : (n : ℕ) → n < 2 ^ 64 → list_all is_digit (decimal n) ≡ true
decimal_digits n h =
    decimal_by_steps (λ _ ds. list_all is_digit ds ≡ true) (λ m small. and_both _ true (digit_passes m small) refl)
    (λ m ds ten k. last_digit m ds k) n h

zeros : (k : ℕ) → list_all is_digit (replicate k 48) ≡ true
zeros zero = refl
zeros (suc k) = zeros k

pub padded_digits : (width n : ℕ) → n < 2 ^ 64 → list_all is_digit (padded width n) ≡ true
padded_digits width n h =
    all_append is_digit (replicate (width - length (decimal n)) 48) (decimal n) (zeros (width - length (decimal n)))
    (decimal_digits n h)

-- ---- words

pub decimal_word : (n : ℕ) → n < 2 ^ 64 → list_all is_word (decimal n) ≡ true
decimal_word n h = all_weaker is_digit is_word digit_is_word (decimal n) (decimal_digits n h)

pub padded_word : (width n : ℕ) → n < 2 ^ 64 → list_all is_word (padded width n) ≡ true
padded_word width n h = all_weaker is_digit is_word digit_is_word (padded width n) (padded_digits width n h)

pub date_word : (p : Parts) → p.0 < 2 ^ 64 → p.1 < 2 ^ 64 → p.2 < 2 ^ 64 → list_all is_word (date_text p) ≡ true
date_word p y m d =
    all_append is_word (padded 4 p.0 ++ (45 ∷ padded 2 p.1)) (45 ∷ padded 2 p.2)
    (all_append is_word (padded 4 p.0) (45 ∷ padded 2 p.1) (padded_word 4 p.0 y) (padded_word 2 p.1 m))
    (padded_word 2 p.2 d)

fraction_word : (f : ℕ) → f < 2 ^ 64 → list_all is_word (fraction_text f) ≡ true
fraction_word f h = elim (cases_Bool (f == 0)) [
  | inl none ↦ rw none refl
  | inr some ↦ rw some (padded_word 6 f h)
]

pub time_word : (micros : ℕ) → micros < 2 ^ 64 → list_all is_word (time_text micros) ≡ true
time_word micros h =
    let s = micros / 1_000_000 in
    let hour : s / 3600 < 2 ^ 64 = omega arith in
    let minute : s / 60 % 60 < 2 ^ 64 = omega arith in
    let second : s % 60 < 2 ^ 64 = omega arith in
    let micro : micros % 1_000_000 < 2 ^ 64 = omega arith in
    let hours = padded 2 (s / 3600) in
    let minutes = 58 ∷ padded 2 (s / 60 % 60) in
    let seconds = 58 ∷ padded 2 (s % 60) in
    all_append is_word ((hours ++ minutes) ++ seconds) (fraction_text (micros % 1_000_000))
    (all_append is_word (hours ++ minutes) seconds
    (all_append is_word hours minutes (padded_word 2 (s / 3600) hour) (padded_word 2 (s / 60 % 60) minute))
    (padded_word 2 (s % 60) second))
    (fraction_word (micros % 1_000_000) micro)

-- an integer whose magnitude fits in 63 bits
pub signed_word : (z : ℤ) → mag z < 2 ^ 63 → list_all is_word (signed_decimal z) ≡ true
signed_word (pos n) h = decimal_word n (omega arith)
signed_word (negsuc n) h = decimal_word (suc n) (omega arith)

-- ---- a byte at a position

-- a digit is no other byte
pub digit_at : (ds : List ℕ) (k b : ℕ) → is_digit b ≡ false → (b ≡ 0 → ⊥) → list_all is_digit ds ≡ true
    → get_or ds k 0 ≡ b → ⊥
digit_at [] k b other some h e = some (sym e)
digit_at (x ∷ xs) zero b other some h e =
    let yes : is_digit x ≡ true = and_left _ _ h in
    let no : is_digit x ≡ false = ap is_digit e ∙ other in absurd (cc)
digit_at (x ∷ xs) (suc k) b other some h e = digit_at xs k b other some (and_right _ _ h) e
