-- The day numbers of `jiff` are those of the definitions.
use Rattle.std.proofs.Common.{◌≡◌, ℕ, zero, suc, ◌+◌, ◌-◌, ◌<◌, ◌≤◌, refl, sym, ap, ◌∙◌, arith, Bool, true, false}
use Rattle.std.proofs.Common.{Option, Some, None, is_some, Result, Ok, Err, IsOk, IfOk, ◌↔◌, IfSome, MatchOption, ℤ}
use Rattle.std.proofs.Common.{pos, neg_ℤ, ◌+ℤ◌, ◌-ℤ◌}
use Rattle.std.specs.Result.{result_ok}
use Rattle.jiff_core.proofs.CalendarLemmas.{days_from_civil-day_count}
use Rattle.jiff_core.proofs.DateLemmas.{epoch_day_injective}
use Rattle.jiff_core.proofs.MarchLemmas.{leap_day, leap_day-shift, days_of_years-march_days, march_days-suc}
use Rattle.jiff_core.proofs.SignedLemmas.{signed_arith}
use Rattle.jiff_core.specs.Calendar.{days_of_years, days_of_months, day_count, days_from_civil, IsDate, IsEpochDay}
use Rattle.jiff_core.specs.Date.{epoch_day, IsYmd}
use Rattle.jiff_core.specs.March.{march_days}
use Rattle.jiff_core.specs.declared.civil.date.Date.{Date}
use Rattle.tql_spec.specs.Calendar.{is_date, days_in_month, days_before_year, days_before_month, days_after_start}
use Rattle.tql_spec.specs.Calendar.{day_number, date_after_start, start_offset, day_count as day_total}
use Rattle.tql_value.specs.JiffDate.{HasParts, IsDateOf}
use Rattle.tql_value.proofs.DayNumbers.{IsCalendarDate, date-from_test, date-to_test, date_after_start-date}
use Rattle.tql_value.proofs.DayNumbers.{days_after_start-date_after_start}

months_same : (y m : ℕ) → days_of_months (pos y) m ≡ days_before_month y m
unfolding days_of_months
months_same y zero = refl
months_same y (suc m) = ap (λ n. n + days_in_month y (suc m)) (months_same y m)

-- 3652791 days lie between the years -10000 and 1
march_same : (k : ℕ) → march_days (k + 10001) ≡ march_days (k + 1) + 3652425
march_same k = omega arith

years_same : (k : ℕ) → days_of_years (k + 10001) ≡ days_before_year (k + 1) + 3652791
years_same k =
    let shift : pos (k + 1) +ℤ pos 10000 ≡ pos (k + 10001) = omega (arith, signed_arith) in
    let back : k + 1 - 1 ≡ k = omega arith in
    let next : suc k ≡ k + 1 = omega arith in
    let late = days_of_years-march_days (k + 10001) in
    let step = rw next at (march_days-suc k) in
    let same = march_same k in
    let leap : leap_day (pos (k + 1)) ≡ leap_day (pos (k + 10001)) = leap_day-shift (pos (k + 1)) (k + 10001) shift in
    omega (arith, late, step, same, leap)

days_same : (y m d : ℕ) → 1 ≤ y → 1 ≤ d → day_count (pos y) m d ≡ days_after_start y m d + 3652791
unfolding day_count
days_same zero m d low first = absurd (omega arith)
days_same (suc k) m d low first =
    let shift : suc k + 10000 ≡ k + 10001 = omega arith in
    let next : k + 1 ≡ suc k = omega arith in
    let years : days_of_years (suc k + 10000) ≡ days_before_year (suc k) + 3652791 =
    rw (shift, ← next) (years_same k) in
    let months = months_same (suc k) (m - 1) in
    omega arith

-- the day number of a date from the year 1 on
pub days_from_civil-day_number : (y m d : ℕ) → 1 ≤ y → 1 ≤ d → days_from_civil (pos y) m d ≡ day_number y m d
days_from_civil-day_number y m d low first =
    omega (arith, signed_arith, days_from_civil-day_count (pos y) m d, days_same y m d low first)

-- a date of the definitions, as `jiff` represents it
unfoldable pub jiff_date : (y m d : ℕ) → IsCalendarDate y m d → Date
jiff_date y m d h = record {
  year = pos y;
  month = m;
  day = d;
  year_in = (
    let low = h.first_year in let high = h.last_year in omega (arith, signed_arith),
    let low = h.first_year
        in let high = h.last_year in omega (arith, signed_arith),
  );
  month_in = (h.first_month, h.last_month);
  day_in = (h.first_day, h.last_day);
}

-- the date of a day number has the definitions' parts
pub epoch_day-HasParts : (date : Date) (y m d : ℕ) → IsCalendarDate y m d → epoch_day date ≡ day_number y m d
    → HasParts date (y, m, d)
unfolding jiff_date
epoch_day-HasParts date y m d h e =
    let other = jiff_date y m d h in
    let same = epoch_day_injective date other (e ∙ sym (days_from_civil-day_number y m d h.first_year h.first_day)) in
    record { year = same.0; month = same.1; day = same.2; valid = date-to_test y m d h }

pub epoch_day-parts : (date : Date) (n : ℕ) → n < day_total → epoch_day date ≡ pos n -ℤ pos start_offset
    → HasParts date (date_after_start n)
epoch_day-parts date n h e =
    let parts = date_after_start n in
    let valid = date_after_start-date n h in
    let back : days_after_start parts.0 parts.1 parts.2 ≡ n = days_after_start-date_after_start n in
    let same : pos n -ℤ pos start_offset ≡ day_number parts.0 parts.1 parts.2 =
    ap (λ k. pos k -ℤ pos start_offset) (sym back) in
    epoch_day-HasParts date parts.0 parts.1 parts.2 valid (e ∙ same)

-- the first day
pub epoch_day-first : (date : Date) → IsYmd (pos 1) (pos 1) (pos 1) date → epoch_day date ≡ neg_ℤ (pos 719162)
epoch_day-first date ymd =
    let m : date.month ≡ 1 = omega (arith, signed_arith) in
    let d : date.day ≡ 1 = omega (arith, signed_arith) in
    rw (ymd.0, m, d) (days_from_civil-day_number 1 1 1 (omega arith) (omega arith))

-- the date that is n days after the first one
pub first_plus-HasParts : (first date : Date) (n : ℕ) → n < day_total → IsYmd (pos 1) (pos 1) (pos 1) first
    → epoch_day date ≡ epoch_day first +ℤ pos n → HasParts date (date_after_start n)
first_plus-HasParts first date n h ymd e =
    let start = epoch_day-first first ymd in
    epoch_day-parts date n h (omega (arith, signed_arith))

-- the library supports that date
pub first_plus-IsEpochDay : (first : Date) (n : ℕ) → n < day_total → IsYmd (pos 1) (pos 1) (pos 1) first
    → IsEpochDay (epoch_day first +ℤ pos n)
first_plus-IsEpochDay first n h ymd =
    let start = epoch_day-first first ymd in
    (omega (arith, signed_arith), omega (arith, signed_arith))

-- `jiff` accepts each date of the definitions
IsDate-from_date : (y m d : ℕ) → IsCalendarDate y m d → IsDate (pos y) (pos m) (pos d)
IsDate-from_date y m d h =
    let a = h.first_year in let b = h.last_year in let e = h.first_month in let f = h.last_month in
    let g = h.first_day in let i = h.last_day in (
      (omega (arith, signed_arith), omega (arith, signed_arith)),
      (omega (arith, signed_arith), omega (arith, signed_arith)),
      (omega (arith, signed_arith), omega (arith, signed_arith)),
    )

-- and the reverse, from the year 1 on
date-from_IsDate : (y m d : ℕ) → 0 < y → IsDate (pos y) (pos m) (pos d) → IsCalendarDate y m d
date-from_IsDate y m d low h =
    let a = h.0.1 in let e = h.1.0 in let f = h.1.1 in let g = h.2.0 in let i = h.2.1 in
    record {
      first_year = low;
      last_year = omega (arith, signed_arith);
      first_month = omega (arith, signed_arith);
      last_month = omega (arith, signed_arith);
      first_day = omega (arith, signed_arith);
      last_day = omega (arith, signed_arith);
    }

no_date : (b : Bool) → (b ≡ true → ⊥) → b ≡ false
no_date true h = absurd (h refl)
no_date false h = refl

-- `jiff` has a date of these parts exactly if the definitions have it, and with the same number
pub IsDateOf-from_jiff : (y m d : ℕ) (r : Option Date) → 0 < y → (is_some r ≡ true → IsDate (pos y) (pos m) (pos d))
    → (IsDate (pos y) (pos m) (pos d) → is_some r ≡ true) → IfSome r (IsYmd (pos y) (pos m) (pos d))
    → MatchOption r (is_date y m d ≡ false) (IsDateOf y m d)
IsDateOf-from_jiff y m d None low has hasnt is =
    no_date (is_date y m d) (λ valid. let some = hasnt (IsDate-from_date y m d (date-from_test y m d valid)) in cc)
IsDateOf-from_jiff y m d (Some date) low has hasnt is =
    let valid = date-from_IsDate y m d low (has refl) in
    let month : date.month ≡ m = omega (arith, signed_arith) in
    let day : date.day ≡ d = omega (arith, signed_arith) in
    record {
      valid = date-to_test y m d valid;
      number = rw (is.0, month, day) (days_from_civil-day_number y m d low valid.first_day);
    }

-- the same for the result of the constructor
pub IsDateOf-from_result : {E : Type 0} (y m d : ℕ) (year month day : ℤ) (r : Result Date E) (o : Option Date)
    → 0 < y → year ≡ pos y → month ≡ pos m → day ≡ pos d → o ≡ result_ok r → IsOk r ↔ IsDate year month day
    → IfOk r (IsYmd year month day) → MatchOption o (is_date y m d ≡ false) (IsDateOf y m d)
IsDateOf-from_result y m d year month day (Ok date) o low ey em ed eo has is =
    let valid = rw (ey, em, ed) at has in
    rw eo (IsDateOf-from_jiff y m d (Some date) low (λ some. valid.0 refl) (λ there. refl) (rw (ey, em, ed) at is))
IsDateOf-from_result y m d year month day (Err e) o low ey em ed eo has is =
    let valid = rw (ey, em, ed) at has in
    rw eo (IsDateOf-from_jiff y m d None low (λ some. let none : false ≡ true = some in cc) (λ there. valid.1 there) tt)
