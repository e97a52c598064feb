-- The texts of dates and timestamps are read as these values.
use Rattle.std.proofs.Common.{◌≡◌, ℕ, ◌+◌, ◌-◌, ◌*◌, ◌/◌, ◌%◌, ◌<◌, ◌≤◌, List, [], ◌∷◌, ◌++◌, refl, sym, ◌∙◌, ap, arith}
use Rattle.std.proofs.Common.{length, take, drop, nat_abs, inl, inr, true, false, ◌≤ℤ◌, ◌+ℤ◌, ◌-ℤ◌, subst}
use Rattle.std.proofs.Math.IntN as IntN
use Rattle.std.proofs.lemmas.Bool.{cases_Bool}
use Rattle.std.proofs.lemmas.Bool.Decides.{nat_tests}
use Rattle.std.specs.Prelude.{ℤ, pos, negsuc, ◌==◌, ◌&&◌, Some, nat_lt, IsTrue}
use Rattle.std.specs.List.{list_all}
use Rattle.jiff_core.proofs.SignedLemmas.{signed_arith}
use Rattle.tql_spec.specs.Calendar.{Parts, after_start, day_count, day_length, day_parts, days_after_start}
use Rattle.tql_spec.specs.Calendar.{days_at_start, digits_at, has_byte_at, is_date, is_digit, micros_of_time}
use Rattle.tql_spec.specs.Calendar.{moment_day, moment_micros, moment_number, read_date, read_fraction, read_timestamp}
use Rattle.tql_spec.specs.Calendar.{start_offset}
use Rattle.tql_spec.specs.Datum.{Day, Moment}
use Rattle.tql_spec.specs.Text.{cell_text, date_text, fraction_text, padded, time_text}
use Rattle.tql_value.specs.Points.{IsDay, IsMoment}
use Rattle.tql_value.proofs.DayNumbers.{date-to_test, date_after_start-date, days_after_start-date_after_start}
use Rattle.tql_value.proofs.MomentNumbers.{moments_read_back}
use Rattle.tql_result.proofs.Digits.{padded_six}
use Rattle.tql_result_laws.proofs.Cuts.{and_both}
use Rattle.tql_result_laws.proofs.Dates.{IsShort, clock_bytes, date_bytes, date_is, day_short, micros_short}
use Rattle.tql_result_laws.proofs.Dates.{moment_short, six_bytes, time_is}
use Rattle.tql_result_laws.proofs.Words.{digit_passes}
use Rattle.tql_literal.specs.ReadBack as law
use Rattle.tql_literal.proofs.Digits.{four_here, two_here}

-- ---- dates

-- a date with these parts
days_by : (bs : List ℕ) (y m d : ℕ) → digits_at bs 0 4 ≡ Some y → digits_at bs 5 2 ≡ Some m
    → digits_at bs 8 2 ≡ Some d → has_byte_at bs 4 45 ≡ true → has_byte_at bs 7 45 ≡ true → is_date y m d ≡ true
    → days_at_start bs ≡ Some (days_after_start y m d)
days_by bs y m d year month day first second valid = rw (year, month, day, first, second, valid) refl

-- the text of a date, whatever follows it
days_read : (p : Parts) (rest : List ℕ) → IsShort p → is_date p.0 p.1 p.2 ≡ true
    → days_at_start (date_bytes p ++ rest) ≡ Some (days_after_start p.0 p.1 p.2)
days_read p rest short valid =
    let bs = date_bytes p ++ rest in
    days_by bs p.0 p.1 p.2 (four_here bs 0 p.0 short.year refl) (two_here bs 5 p.1 short.month refl)
    (two_here bs 8 p.2 short.day refl) refl refl valid

date_by : (bs : List ℕ) (n : ℕ) → (length bs == 10) ≡ true → days_at_start bs ≡ Some n
    → read_date bs ≡ Some (pos n -ℤ pos start_offset)
date_by bs n long days = rw (long, days) refl

date_read : (p : Parts) → IsShort p → is_date p.0 p.1 p.2 ≡ true
    → read_date (date_text p) ≡ Some (pos (days_after_start p.0 p.1 p.2) -ℤ pos start_offset)
date_read p short valid =
    let alone : date_bytes p ++ [] ≡ date_bytes p = refl in
    ap read_date (date_is p short)
    ∙ date_by (date_bytes p) (days_after_start p.0 p.1 p.2) refl
    (ap days_at_start (sym alone) ∙ days_read p [] short valid)

-- ---- days

nat_abs-nonnegative : (z : ℤ) → pos 0 ≤ℤ z → pos (nat_abs z) ≡ z
nat_abs-nonnegative (pos n) h = refl
nat_abs-nonnegative (negsuc n) h = absurd (omega (arith, signed_arith))

-- the number of a day, counted from the first day
day_from_start : (d : ℤ) → IsDay d → pos (after_start start_offset d) ≡ d +ℤ pos start_offset
day_from_start d h =
    let low = h.0 in
    let after : pos 0 ≤ℤ (d +ℤ pos start_offset) = omega (arith, signed_arith) in
    nat_abs-nonnegative (d +ℤ pos start_offset) after

day_within : (d : ℤ) → IsDay d → after_start start_offset d < day_count
day_within d h =
    let low = h.0 in let high = h.1 in let is = day_from_start d h in
    let small : after_start start_offset d < day_count = omega (arith, signed_arith) in small

day_valid : (d : ℤ) → IsDay d → is_date (day_parts d).0 (day_parts d).1 (day_parts d).2 ≡ true
day_valid d h = date-to_test _ _ _ (date_after_start-date (after_start start_offset d) (day_within d h))

-- a day is determined by its date
day_is : (d : ℤ) → IsDay d
    → pos (days_after_start (day_parts d).0 (day_parts d).1 (day_parts d).2) -ℤ pos start_offset ≡ d
day_is d h =
    ap (λ (n : ℕ). pos n -ℤ pos start_offset) (days_after_start-date_after_start (after_start start_offset d))
    ∙ ap (λ (z : ℤ). z -ℤ pos start_offset) (day_from_start d h) ∙ IntN.+ℤ-neg_ℤ_cancel d (pos start_offset)

day_read : (d : ℤ) → IsDay d → read_date (cell_text (Day d)) ≡ Some d
day_read d h = date_read (day_parts d) (day_short d h) (day_valid d h) ∙ ap Some (day_is d h)

-- ---- times of day

-- six digits after a point
six_read : (n : ℕ) → n < 1000000 → read_fraction (46 ∷ six_bytes n) ≡ Some n
six_read n h =
    let a = digit_passes (n / 100000 % 10) (omega arith) in
    let b = digit_passes (n / 10000 % 10) (omega arith) in
    let c = digit_passes (n / 1000 % 10) (omega arith) in
    let d = digit_passes (n / 100 % 10) (omega arith) in
    let e = digit_passes (n / 10 % 10) (omega arith) in
    let f = digit_passes (n % 10) (omega arith) in
    let digits : list_all is_digit (six_bytes n) ≡ true =
    and_both _ _ a (and_both _ _ b (and_both _ _ c (and_both _ _ d (and_both _ _ e (and_both _ _ f refl))))) in
    rw digits (ap Some (omega arith))

fraction_read : (n : ℕ) → n < 1000000 → read_fraction (fraction_text n) ≡ Some n
fraction_read n h = elim (cases_Bool (n == 0)) [
  | inl none ↦ let zero : n ≡ 0 = grind (arith, nat_tests) in rw none (ap Some (sym zero))
  | inr some ↦
      let there : fraction_text n ≡ 46 ∷ padded 6 n = rw some refl in
      ap read_fraction (there ∙ ap (λ l. 46 ∷ l) (padded_six n h)) ∙ six_read n h
]

-- the microseconds of a day are determined by the clock
clock_read : (micros : ℕ) → micros < day_length
    → micros_of_time (micros / 1_000_000 / 3600) (micros / 1_000_000 / 60 % 60) (micros / 1_000_000 % 60)
    (micros % 1_000_000) ≡ Some micros
clock_read micros h =
    let s = micros / 1_000_000 in
    let hour : nat_lt (s / 3600) 24 ≡ true = grind (arith, nat_tests) in
    let minute : nat_lt (s / 60 % 60) 60 ≡ true = grind (arith, nat_tests) in
    let second : nat_lt (s % 60) 60 ≡ true = grind (arith, nat_tests) in
    rw (hour, minute, second) (ap Some (omega arith))

timestamp_by : (bs : List ℕ) (days h m s f micros : ℕ) → days_at_start bs ≡ Some days → digits_at bs 11 2 ≡ Some h
    → digits_at bs 14 2 ≡ Some m → digits_at bs 17 2 ≡ Some s → read_fraction (drop 19 bs) ≡ Some f
    → micros_of_time h m s f ≡ Some micros → has_byte_at bs 10 32 ≡ true → has_byte_at bs 13 58 ≡ true
    → has_byte_at bs 16 58 ≡ true → read_timestamp bs ≡ Some (moment_number days micros)
timestamp_by bs days h m s f micros date hour minute second fraction time blank colon next =
    rw (date, hour, minute, second, fraction, time, blank, colon, next) refl

-- the text of a date and a time
parts_read : (p : Parts) (micros : ℕ) → IsShort p → is_date p.0 p.1 p.2 ≡ true → micros < day_length
    → read_timestamp (date_text p ++ 32 ∷ time_text micros)
    ≡ Some (moment_number (days_after_start p.0 p.1 p.2) micros)
parts_read p micros short valid h =
    let s = micros / 1_000_000 in
    let f = fraction_text (micros % 1_000_000) in
    let bs = date_bytes p ++ 32 ∷ clock_bytes s f in
    let is : date_text p ++ 32 ∷ time_text micros ≡ bs =
    ap (λ l. l ++ 32 ∷ time_text micros) (date_is p short) ∙ ap (λ l. date_bytes p ++ 32 ∷ l) (time_is micros h) in
    ap read_timestamp is
    ∙ timestamp_by bs (days_after_start p.0 p.1 p.2) (s / 3600) (s / 60 % 60) (s % 60) (micros % 1_000_000) micros
    (days_read p (32 ∷ clock_bytes s f) short valid) (two_here bs 11 (s / 3600) (omega arith) refl)
    (two_here bs 14 (s / 60 % 60) (omega arith) refl) (two_here bs 17 (s % 60) (omega arith) refl)
    (fraction_read (micros % 1_000_000) (omega arith)) (clock_read micros h) refl refl refl

moment_read : (m : ℤ) → IsMoment m → read_timestamp (cell_text (Moment m)) ≡ Some m
moment_read m h =
    let back = moments_read_back m h in
    parts_read (moment_day m) (moment_micros m) (moment_short m h) back.0 (micros_short m) ∙ ap Some back.1

-- the law
pub points_read : law.PointsReadBack
points_read = record { days = day_read; moments = moment_read }
