-- Dates and timestamps are determined by their texts.
use Rattle.std.proofs.Common.{◌≡◌, ℕ, ◌+◌, ◌*◌, ◌/◌, ◌%◌, ◌<◌, ◌≤◌, List, [], ◌∷◌, ◌++◌, refl, sym, ◌∙◌}
use Rattle.std.proofs.Common.{ap, arith, get_or, drop, nat_abs, inl, inr, false, true, ◌≤ℤ◌, ◌+ℤ◌, ◌-ℤ◌}
use Rattle.std.proofs.Math.IntN as IntN
use Rattle.std.proofs.lemmas.Bool.{cases_Bool, eqb-true}
use Rattle.std.specs.Prelude.{ℤ, pos, negsuc, ◌==◌}
use Rattle.jiff_core.proofs.SignedLemmas.{signed_arith}
use Rattle.tql_spec.specs.Calendar.{Parts, day_count, day_length, start_offset, days_after_start, day_parts, moment_day}
use Rattle.tql_spec.specs.Calendar.{moment_micros, moment_number, days_in_month, after_start}
use Rattle.tql_spec.specs.Text.{padded, date_text, fraction_text, time_text}
use Rattle.tql_value.specs.Points.{IsDay, IsMoment}
use Rattle.tql_value.proofs.DayNumbers.{IsCalendarDate, date_after_start-date, days_after_start-date_after_start}
use Rattle.tql_value.proofs.MomentNumbers.{moments_read_back}
use Rattle.tql_result.proofs.Digits.{padded_two, padded_four, padded_six}

-- a year of at most four digits, and a month and a day of at most two
pub record IsShort (p : Parts) : Type 0 where
  pub year : p.0 < 10000
  pub month : p.1 < 100
  pub day : p.2 < 100

month_short : (y m : ℕ) → days_in_month y m ≤ 31
month_short y m = grind arith

date_short : (p : Parts) → IsCalendarDate p.0 p.1 p.2 → IsShort p
date_short p h = let most = month_short p.0 p.1 in record { year = omega arith; month = omega arith; day = omega arith }

-- ---- dates

-- the bytes of a date
abbrev pub date_bytes : Parts → List ℕ
date_bytes p =
    (48 + p.0 / 1000 % 10) ∷ (48 + p.0 / 100 % 10) ∷ (48 + p.0 / 10 % 10) ∷ (48 + p.0 % 10) ∷ 45 ∷
    (48 + p.1 / 10 % 10) ∷ (48 + p.1 % 10) ∷ 45 ∷ (48 + p.2 / 10 % 10) ∷ (48 + p.2 % 10) ∷ []

pub date_is : (p : Parts) → IsShort p → date_text p ≡ date_bytes p
date_is p h =
    ap (λ l. l ++ 45 ∷ padded 2 p.1 ++ 45 ∷ padded 2 p.2) (padded_four p.0 h.year)
    ∙ ap (λ l. (48 + p.0 / 1000 % 10) ∷ (48 + p.0 / 100 % 10) ∷ (48 + p.0 / 10 % 10) ∷ (48 + p.0 % 10) ∷ 45 ∷
    (l ++ 45 ∷ padded 2 p.2)) (padded_two p.1 h.month)
    ∙ ap (λ l. (48 + p.0 / 1000 % 10) ∷ (48 + p.0 / 100 % 10) ∷ (48 + p.0 / 10 % 10) ∷ (48 + p.0 % 10) ∷ 45 ∷
    (48 + p.1 / 10 % 10) ∷ (48 + p.1 % 10) ∷ 45 ∷ l) (padded_two p.2 h.day)

-- numbers with the same digits are equal
two_same : (n m : ℕ) → n < 100 → m < 100 → 48 + n / 10 % 10 ≡ 48 + m / 10 % 10 → 48 + n % 10 ≡ 48 + m % 10 → n ≡ m
two_same n m hn hm tens units = omega arith

four_is : (n : ℕ) → n < 10000 → n ≡ n / 1000 % 10 * 1000 + n / 100 % 10 * 100 + n / 10 % 10 * 10 + n % 10
four_is n h = omega arith

four_same : (n m : ℕ) → n < 10000 → m < 10000 → 48 + n / 1000 % 10 ≡ 48 + m / 1000 % 10
    → 48 + n / 100 % 10 ≡ 48 + m / 100 % 10 → 48 + n / 10 % 10 ≡ 48 + m / 10 % 10 → 48 + n % 10 ≡ 48 + m % 10 → n ≡ m
four_same n m hn hm thousands hundreds tens units =
    let left = four_is n hn in let right = four_is m hm in omega arith

pub date_same : (p q : Parts) → IsShort p → IsShort q → date_bytes p ≡ date_bytes q → p ≡ q
date_same p q hp hq e =
    let year : p.0 ≡ q.0 = four_same p.0 q.0 hp.year hq.year (ap (λ l. get_or l 0 0) e) (ap (λ l. get_or l 1 0) e)
    (ap (λ l. get_or l 2 0) e) (ap (λ l. get_or l 3 0) e) in
    let month : p.1 ≡ q.1 = two_same p.1 q.1 hp.month hq.month (ap (λ l. get_or l 5 0) e) (ap (λ l. get_or l 6 0) e) in
    let day : p.2 ≡ q.2 = two_same p.2 q.2 hp.day hq.day (ap (λ l. get_or l 8 0) e) (ap (λ l. get_or l 9 0) e) in
    let P : ℕ → ℕ → ℕ → Parts = λ y m d. (y, m, d) in
    ap (λ (y : ℕ). P y p.1 p.2) year ∙ ap (λ (m : ℕ). P q.0 m p.2) month ∙ ap (λ (d : ℕ). P q.0 q.1 d) day

-- ---- days

nat_abs-nonnegative : (z : ℤ) → pos 0 ≤ℤ z → pos (nat_abs z) ≡ z
nat_abs-nonnegative (pos n) h = refl
nat_abs-nonnegative (negsuc n) h = absurd (omega (arith, signed_arith))

-- the number of a day, counted from the first day
day_from_start : (d : ℤ) → IsDay d → pos (after_start start_offset d) ≡ d +ℤ pos start_offset
day_from_start d h =
    let low = h.0 in
    let after : pos 0 ≤ℤ (d +ℤ pos start_offset) = omega (arith, signed_arith) in
    nat_abs-nonnegative (d +ℤ pos start_offset) after

day_within : (d : ℤ) → IsDay d → after_start start_offset d < day_count
day_within d h =
    let low = h.0 in let high = h.1 in let is = day_from_start d h in
    let small : after_start start_offset d < day_count = omega (arith, signed_arith) in small

pub day_short : (d : ℤ) → IsDay d → IsShort (day_parts d)
day_short d h = date_short (day_parts d) (date_after_start-date (after_start start_offset d) (day_within d h))

-- a day is determined by its date
day_is : (d : ℤ) → IsDay d
    → pos (days_after_start (day_parts d).0 (day_parts d).1 (day_parts d).2) -ℤ pos start_offset ≡ d
day_is d h =
    ap (λ (n : ℕ). pos n -ℤ pos start_offset) (days_after_start-date_after_start (after_start start_offset d))
    ∙ ap (λ (z : ℤ). z -ℤ pos start_offset) (day_from_start d h) ∙ IntN.+ℤ-neg_ℤ_cancel d (pos start_offset)

pub day_same : (d e : ℤ) → IsDay d → IsDay e → day_parts d ≡ day_parts e → d ≡ e
day_same d e hd he same =
    sym (day_is d hd)
    ∙ ap (λ (p : Parts). pos (days_after_start p.0 p.1 p.2) -ℤ pos start_offset) same ∙ day_is e he

-- ---- moments

moment_within : (m : ℤ) → IsMoment m → after_start (start_offset * day_length) m / day_length < day_count
moment_within m h =
    let low = h.0 in let high = h.1 in
    let after : pos 0 ≤ℤ (m +ℤ pos (start_offset * day_length)) = omega (arith, signed_arith) in
    let is = nat_abs-nonnegative (m +ℤ pos (start_offset * day_length)) after in
    let small : after_start (start_offset * day_length) m < day_count * day_length = omega (arith, signed_arith) in
    omega arith

pub moment_short : (m : ℤ) → IsMoment m → IsShort (moment_day m)
moment_short m h =
    date_short (moment_day m)
    (date_after_start-date (after_start (start_offset * day_length) m / day_length) (moment_within m h))

pub micros_short : (m : ℤ) → moment_micros m < day_length
micros_short m = omega arith

pub moment_same : (m n : ℤ) → IsMoment m → IsMoment n → moment_day m ≡ moment_day n → moment_micros m ≡ moment_micros n
    → m ≡ n
moment_same m n hm hn days micros =
    sym (moments_read_back m hm).1
    ∙ ap (λ (p : Parts). moment_number (days_after_start p.0 p.1 p.2) (moment_micros m)) days
    ∙ ap (λ (k : ℕ). moment_number (days_after_start (moment_day n).0 (moment_day n).1 (moment_day n).2) k) micros
    ∙ (moments_read_back n hn).1

-- ---- times of day

-- the bytes of a time of day
abbrev pub clock_bytes : ℕ → List ℕ → List ℕ
clock_bytes s rest =
    (48 + s / 3600 / 10 % 10) ∷ (48 + s / 3600 % 10) ∷ 58 ∷ (48 + s / 60 % 60 / 10 % 10) ∷ (48 + s / 60 % 60 % 10) ∷
    58 ∷ (48 + s % 60 / 10 % 10) ∷ (48 + s % 60 % 10) ∷ rest

pub time_is : (micros : ℕ) → micros < day_length
    → time_text micros ≡ clock_bytes (micros / 1_000_000) (fraction_text (micros % 1_000_000))
time_is micros h =
    let s = micros / 1_000_000 in
    let f = fraction_text (micros % 1_000_000) in
    let hour : s / 3600 < 100 = omega arith in
    let minute : s / 60 % 60 < 100 = omega arith in
    let second : s % 60 < 100 = omega arith in
    ap (λ l. l ++ 58 ∷ padded 2 (s / 60 % 60) ++ 58 ∷ padded 2 (s % 60) ++ f) (padded_two (s / 3600) hour)
    ∙ ap (λ l. (48 + s / 3600 / 10 % 10) ∷ (48 + s / 3600 % 10) ∷ 58 ∷ (l ++ 58 ∷ padded 2 (s % 60) ++ f))
    (padded_two (s / 60 % 60) minute)
    ∙ ap (λ l. (48 + s / 3600 / 10 % 10) ∷ (48 + s / 3600 % 10) ∷ 58 ∷ (48 + s / 60 % 60 / 10 % 10) ∷
    (48 + s / 60 % 60 % 10) ∷ 58 ∷ (l ++ f)) (padded_two (s % 60) second)

-- the bytes of a fraction
six_is : (n : ℕ) → n < 1000000
    → n ≡ n / 100000 % 10 * 100000 + n / 10000 % 10 * 10000 + n / 1000 % 10 * 1000 + n / 100 % 10 * 100
    + n / 10 % 10 * 10
    + n % 10
six_is n h = omega arith

abbrev pub six_bytes : ℕ → List ℕ
six_bytes n =
    (48 + n / 100000 % 10) ∷ (48 + n / 10000 % 10) ∷ (48 + n / 1000 % 10) ∷ (48 + n / 100 % 10) ∷ (48 + n / 10 % 10) ∷
    (48 + n % 10) ∷ []

six_same : (n m : ℕ) → n < 1000000 → m < 1000000 → six_bytes n ≡ six_bytes m → n ≡ m
six_same n m hn hm e =
    let left = six_is n hn in let right = six_is m hm in
    let a : 48 + n / 100000 % 10 ≡ 48 + m / 100000 % 10 = ap (λ l. get_or l 0 0) e in
    let b : 48 + n / 10000 % 10 ≡ 48 + m / 10000 % 10 = ap (λ l. get_or l 1 0) e in
    let c : 48 + n / 1000 % 10 ≡ 48 + m / 1000 % 10 = ap (λ l. get_or l 2 0) e in
    let d : 48 + n / 100 % 10 ≡ 48 + m / 100 % 10 = ap (λ l. get_or l 3 0) e in
    let f : 48 + n / 10 % 10 ≡ 48 + m / 10 % 10 = ap (λ l. get_or l 4 0) e in
    let g : 48 + n % 10 ≡ 48 + m % 10 = ap (λ l. get_or l 5 0) e in omega arith

fraction_some : (n : ℕ) → (n == 0) ≡ false → fraction_text n ≡ 46 ∷ padded 6 n
fraction_some n some = rw some refl

fraction_none : (n : ℕ) → (n == 0) ≡ true → fraction_text n ≡ []
fraction_none n none = rw none refl

fraction_same : (n m : ℕ) → n < 1000000 → m < 1000000 → fraction_text n ≡ fraction_text m → n ≡ m
fraction_same n m hn hm e = elim (cases_Bool (n == 0)) [
  | inl none ↦ elim (cases_Bool (m == 0)) [
    | inl also ↦ let left = eqb-true n 0 none in let right = eqb-true m 0 also in omega arith
    | inr some ↦
        let both : [] ≡ 46 ∷ padded 6 m = sym (fraction_none n none) ∙ e ∙ fraction_some m some in absurd (cc)
  ]
  | inr some ↦ elim (cases_Bool (m == 0)) [
    | inl none ↦
        let both : 46 ∷ padded 6 n ≡ [] = sym (fraction_some n some) ∙ e ∙ fraction_none m none in absurd (cc)
    | inr also ↦
        let both : 46 ∷ padded 6 n ≡ 46 ∷ padded 6 m = sym (fraction_some n some) ∙ e ∙ fraction_some m also in
        six_same n m hn hm (sym (padded_six n hn) ∙ ap (drop 1) both ∙ padded_six m hm)
  ]
]

-- the seconds of a day are determined by their clock text
clock_same : (s t : ℕ) (u v : List ℕ) → s < 86400 → t < 86400 → clock_bytes s u ≡ clock_bytes t v → s ≡ t
clock_same s t u v hs ht e =
    let hs' : s / 3600 < 100 = omega arith in
    let ht' : t / 3600 < 100 = omega arith in
    let hour : s / 3600 ≡ t / 3600 =
    two_same (s / 3600) (t / 3600) hs' ht' (ap (λ l. get_or l 0 0) e) (ap (λ l. get_or l 1 0) e) in
    let minute : s / 60 % 60 ≡ t / 60 % 60 =
    two_same (s / 60 % 60) (t / 60 % 60) (omega arith) (omega arith) (ap (λ l. get_or l 3 0) e)
    (ap (λ l. get_or l 4 0) e) in
    let second : s % 60 ≡ t % 60 =
    two_same (s % 60) (t % 60) (omega arith) (omega arith) (ap (λ l. get_or l 6 0) e) (ap (λ l. get_or l 7 0) e) in
    omega arith

pub time_same : (a b : ℕ) → a < day_length → b < day_length → time_text a ≡ time_text b → a ≡ b
time_same a b ha hb e =
    let s = a / 1_000_000 in let t = b / 1_000_000 in
    let f = fraction_text (a % 1_000_000) in let g = fraction_text (b % 1_000_000) in
    let bytes : clock_bytes s f ≡ clock_bytes t g = sym (time_is a ha) ∙ e ∙ time_is b hb in
    let seconds : a / 1_000_000 ≡ b / 1_000_000 = clock_same s t f g (omega arith) (omega arith) bytes in
    let micros : a % 1_000_000 ≡ b % 1_000_000 =
    fraction_same (a % 1_000_000) (b % 1_000_000) (omega arith) (omega arith) (ap (drop 8) bytes) in
    omega arith
