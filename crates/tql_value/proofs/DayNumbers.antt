-- The calendar of the definitions: its years, months and days. Parts and day numbers convert into each other.
use Rattle.std.proofs.Common.{◌≡◌, ℕ, zero, suc, ◌+◌, ◌-◌, ◌*◌, ◌/◌, ◌<◌, ◌≤◌, inl, inr, cond, IsTrue, refl, ap, ◌∙◌}
use Rattle.std.proofs.Common.{arith, pos, ◌+ℤ◌, ◌-ℤ◌, nat_abs}
use Rattle.std.proofs.Math.IntN as IntN
use Rattle.std.proofs.lemmas.Bool.{cases_lt}
use Rattle.std.proofs.lemmas.Bool.Decides.{nat_tests}
use Rattle.tql_spec.specs.Calendar.{is_leap, days_in_month, days_before_year, days_before_month, is_date}
use Rattle.tql_spec.specs.Calendar.{days_after_start, year_of, last_begun, month_from, date_after_start, day_count}
use Rattle.tql_spec.specs.Calendar.{start_offset, PartsReadBack, PartsAreDates}

-- the calendar has this date
pub record IsCalendarDate (y m d : ℕ) : Type 0 where
  pub first_year : 1 ≤ y
  pub last_year : y ≤ 9999
  pub first_month : 1 ≤ m
  pub last_month : m ≤ 12
  pub first_day : 1 ≤ d
  pub last_day : d ≤ days_in_month y m

pub date-from_test : (y m d : ℕ) → IsTrue (is_date y m d) → IsCalendarDate y m d
date-from_test y m d h = record {
  first_year = grind (arith, nat_tests);
  last_year = grind (arith, nat_tests);
  first_month = grind (arith, nat_tests);
  last_month = grind (arith, nat_tests);
  first_day = grind (arith, nat_tests);
  last_day = grind (arith, nat_tests);
}

pub date-to_test : (y m d : ℕ) → IsCalendarDate y m d → IsTrue (is_date y m d)
date-to_test y m d h = grind (arith, nat_tests)

-- the next year begins after the days of this one
pub days_before_year-suc : (y : ℕ) → 1 ≤ y
    → days_before_year (y + 1) ≡ days_before_year y + (365 + cond (is_leap y) 1 0)
days_before_year-suc zero h = absurd (omega arith)
days_before_year-suc (suc n) h = grind (arith, nat_tests)

-- the twelve months of a year have all of its days
pub days_before_month-all : (y : ℕ) → days_before_month y 12 ≡ 365 + cond (is_leap y) 1 0
days_before_month-all y = grind arith

pub days_before_month-suc : (y m : ℕ) → 1 ≤ m → days_before_month y m ≡ days_before_month y (m - 1) + days_in_month y m
days_before_month-suc y zero h = absurd (omega arith)
days_before_month-suc y (suc n) h = let back : suc n - 1 ≡ n = omega arith in rw back refl

-- later months begin later
pub days_before_month-mono : (y m k : ℕ) → days_before_month y m ≤ days_before_month y (k + m)
days_before_month-mono y m zero = let same : 0 + m ≡ m = omega arith in rw same (omega arith)
days_before_month-mono y m (suc k) =
    let next : suc k + m ≡ suc (k + m) = omega arith in
    rw next (omega (arith, days_before_month-mono y m k))

pub days_before_month-le : (y m n : ℕ) → m ≤ n → days_before_month y m ≤ days_before_month y n
days_before_month-le y m n h =
    let same : n - m + m ≡ n = omega arith in rw same at (days_before_month-mono y m (n - m))

-- each year begins near its share of 146097 days in 400 years
year_guess_low : (n y : ℕ) → 1 ≤ y → days_before_year y ≤ n → y ≤ n * 400 / 146097 + 2
year_guess_low n zero h b = absurd (omega arith)
year_guess_low n (suc k) h b = omega arith

year_guess_high : (n y : ℕ) → 1 ≤ y → n < days_before_year (y + 1) → n * 400 / 146097 ≤ y
year_guess_high n zero h b = absurd (omega arith)
year_guess_high n (suc k) h b = omega arith

-- of the three years around a guess, the last one that begins on the day or before is the day's year
last_begun-is : (n g y : ℕ) → 1 ≤ y → days_before_year y ≤ n → n < days_before_year (y + 1) → y ≤ g + 1 → g ≤ y + 1
    → last_begun n g ≡ y
last_begun-is n g y low b e near far =
    elim (cases_lt g y) [
      | inl below ↦ (let is : g + 1 ≡ y = omega arith in grind (arith, nat_tests))
      | inr above ↦ elim (cases_lt y g) [
        | inl over ↦ (let is : g ≡ y + 1 = omega arith in rw is
            (grind (arith, nat_tests, days_before_year-suc (y + 1))))
        | inr same ↦ (let is : g ≡ y = omega arith in rw is (grind (arith, nat_tests)))
      ]
    ]

pub year_of-is : (n y : ℕ) → 1 ≤ y → days_before_year y ≤ n → n < days_before_year (y + 1) → year_of n ≡ y
year_of-is n y low b e =
    last_begun-is n (n * 400 / 146097 + 1) y low b e
    (let h = year_guess_low n y low b in omega arith)
    (let h = year_guess_high n y low e in omega arith)

-- of the first n months of a year, the last one that begins on the k-th day or before is that day's month
pub month_from-is : (y k m n : ℕ) → 1 ≤ m → m ≤ n → days_before_month y (m - 1) ≤ k → k < days_before_month y m
    → month_from y k n ≡ m
month_from-is y k m zero low high b e = absurd (omega arith)
month_from-is y k m (suc n) low high b e =
    elim (cases_lt n m) [
      | inl last ↦ (let is : m ≡ suc n = omega arith in let back : m - 1 ≡ n = omega arith in
          let begun : days_before_month y n ≤ k = rw (← back) b in grind (arith, nat_tests))
      | inr later ↦ (let after : days_before_month y m ≤ days_before_month y n = days_before_month-le y m n later in
          let ih : month_from y k n ≡ m = month_from-is y k m n low later b e in grind (arith, nat_tests))
    ]

-- a date's day is in its year
pub days_in_year_bound : (y m d : ℕ) → IsCalendarDate y m d
    → days_before_month y (m - 1) + (d - 1) < 365 + cond (is_leap y) 1 0
days_in_year_bound y m d h =
    let low : 1 ≤ m = h.first_month in
    let end : days_before_month y m ≤ days_before_month y 12 = days_before_month-le y m 12 h.last_month in
    omega (arith, h.first_day, h.last_day, days_before_month-suc y m low, days_before_month-all y)

-- the parts of a date's day number are the date
pub date_after_start-is : (y m d n : ℕ) → IsCalendarDate y m d → days_after_start y m d ≡ n
    → date_after_start n ≡ (y, m, d)
date_after_start-is y m d n h is =
    let low : 1 ≤ y = h.first_year in
    let bound = days_in_year_bound y m d h in
    let next = days_before_year-suc y low in
    let begun : days_before_year y ≤ n = omega arith in
    let ends : n < days_before_year (y + 1) = omega arith in
    let year : year_of n ≡ y = year_of-is n y low begun ends in
    let first : 1 ≤ m = h.first_month in
    let rest : n - days_before_year y ≡ days_before_month y (m - 1) + (d - 1) = omega arith in
    let more = days_before_month-suc y m first in
    let month : month_from y (n - days_before_year y) 12 ≡ m =
    month_from-is y (n - days_before_year y) m 12 first h.last_month (omega arith)
    (omega (arith, h.last_day, h.first_day)) in
    let day : n - days_before_year y - days_before_month y (m - 1) + 1 ≡ d = omega (arith, h.first_day) in
    rw (year, month, day) refl

-- ---- each day has parts

-- the year of a day has begun, and the next one has not
pub record IsYearOf (y n : ℕ) : Type 0 where
  pub first : 1 ≤ y
  pub begun : days_before_year y ≤ n
  pub ends : n < days_before_year (y + 1)

last_begun-IsYearOf : (n g : ℕ) → 1 ≤ g → (2 ≤ g → days_before_year (g - 1) ≤ n) → n < days_before_year (g + 2)
    → IsYearOf (last_begun n g) n
last_begun-IsYearOf n g low begun ends =
    elim (cases_lt n (days_before_year (g + 1))) [
      | inl early ↦ elim (cases_lt n (days_before_year g)) [
        | inl earlier ↦ elim (cases_lt 1 g) [
          | inl two ↦ (let back : g - 1 + 1 ≡ g = omega arith in
              let is : last_begun n g ≡ g - 1 = grind (arith, nat_tests) in
              rw is (record { first = omega arith; begun = begun two; ends = rw back earlier }))
          | inr one ↦ (let is : g ≡ 1 = omega arith in absurd (let h = rw is at earlier in omega arith))
        ]
        | inr here ↦ (let is : last_begun n g ≡ g = grind (arith, nat_tests) in
            rw is (record { first = low; begun = here; ends = early }))
      ]
      | inr late ↦ (let is : last_begun n g ≡ g + 1 = grind (arith, nat_tests) in
          let next : g + 1 + 1 ≡ g + 2 = omega arith in
          rw is (record { first = omega arith; begun = late; ends = rw next ends }))
    ]

guess_begun : (n g : ℕ) → g ≡ n * 400 / 146097 + 1 → 2 ≤ g → days_before_year (g - 1) ≤ n
guess_begun n zero e h = absurd (omega arith)
guess_begun n (suc zero) e h = absurd (omega arith)
guess_begun n (suc (suc k)) e h = let back : suc (suc k) - 1 ≡ suc k = omega arith in rw back (omega arith)

guess_ends : (n g : ℕ) → g ≡ n * 400 / 146097 + 1 → n < days_before_year (g + 2)
guess_ends n g e = let back : g + 2 - 1 ≡ g + 1 = omega arith in omega arith

pub year_of-IsYearOf : (n : ℕ) → IsYearOf (year_of n) n
year_of-IsYearOf n =
    let g = n * 400 / 146097 + 1 in
    last_begun-IsYearOf n g (omega arith) (guess_begun n g refl) (guess_ends n g refl)

-- the month of a year's k-th day has begun, and the next one has not
pub record IsMonthOf (y m k n : ℕ) : Type 0 where
  pub first : 1 ≤ m
  pub last : m ≤ n
  pub begun : days_before_month y (m - 1) ≤ k
  pub ends : k < days_before_month y m

pub month_from-IsMonthOf : (y k n : ℕ) → 1 ≤ n → k < days_before_month y n → IsMonthOf y (month_from y k n) k n
month_from-IsMonthOf y k zero low h = absurd (omega arith)
month_from-IsMonthOf y k (suc n) low h =
    elim (cases_lt k (days_before_month y n)) [
      | inl early ↦ elim (cases_lt 0 n) [
        | inl some ↦ (let ih : IsMonthOf y (month_from y k n) k n = month_from-IsMonthOf y k n some early in
            let is : month_from y k (suc n) ≡ month_from y k n = grind (arith, nat_tests) in
            rw is (record { first = ih.first; last = omega (arith, ih.last); begun = ih.begun; ends = ih.ends }))
        | inr none ↦ (let is : n ≡ 0 = omega arith in absurd (let e = rw is at early in omega arith))
      ]
      | inr late ↦ (let is : month_from y k (suc n) ≡ suc n = grind (arith, nat_tests) in
          let back : suc n - 1 ≡ n = omega arith in
          rw is (record { first = omega arith; last = omega arith; begun = rw back late; ends = h }))
    ]

-- the days before the year 10000 are those of the years 1 to 9999
year_bound : (y n : ℕ) → n < day_count → 1 ≤ y → days_before_year y ≤ n → y ≤ 9999
year_bound zero n h low b = omega arith
year_bound (suc k) n h low b = omega arith

-- the parts of a day are a date that is n days after the first one
pub date_after_start-date : (n : ℕ) → n < day_count
    → IsCalendarDate (date_after_start n).0 (date_after_start n).1 (date_after_start n).2
date_after_start-date n h =
    let y = year_of n in
    let year : IsYearOf y n = year_of-IsYearOf n in
    let k = n - days_before_year y in
    let next = days_before_year-suc y year.first in
    let within : k < days_before_month y 12 = omega (arith, days_before_month-all y, year.ends, year.begun) in
    let m = month_from y k 12 in
    let month : IsMonthOf y m k 12 = month_from-IsMonthOf y k 12 (omega arith) within in
    record {
      first_year = year.first;
      last_year = year_bound y n h year.first year.begun;
      first_month = month.first;
      last_month = month.last;
      first_day = omega arith;
      last_day = omega (arith, days_before_month-suc y m month.first, month.ends, month.begun);
    }

pub days_after_start-date_after_start : (n : ℕ)
    → days_after_start (date_after_start n).0 (date_after_start n).1 (date_after_start n).2 ≡ n
days_after_start-date_after_start n =
    let y = year_of n in
    let year : IsYearOf y n = year_of-IsYearOf n in
    let k = n - days_before_year y in
    let next = days_before_year-suc y year.first in
    let within : k < days_before_month y 12 = omega (arith, days_before_month-all y, year.ends, year.begun) in
    let m = month_from y k 12 in
    let month : IsMonthOf y m k 12 = month_from-IsMonthOf y k 12 (omega arith) within in
    let split : days_before_year y + k ≡ n = omega (arith, year.begun) in
    let parted : days_before_month y (m - 1) + (k - days_before_month y (m - 1)) ≡ k = omega (arith, month.begun) in
    omega arith

-- ---- the laws

nat_abs-shift : (n s : ℕ) → nat_abs (pos n -ℤ pos s +ℤ pos s) ≡ n
nat_abs-shift n s = ap nat_abs (IntN.-ℤ-+ℤ_cancel (pos n) (pos s))

pub parts_read_back : PartsReadBack
parts_read_back y m d h =
    ap date_after_start (nat_abs-shift (days_after_start y m d) start_offset)
    ∙ date_after_start-is y m d (days_after_start y m d) (date-from_test y m d h) refl

pub parts_are_dates : PartsAreDates
parts_are_dates n h = record {
  valid = date-to_test (date_after_start n).0 (date_after_start n).1 (date_after_start n).2 (date_after_start-date n h);
  reads_back = days_after_start-date_after_start n;
}
