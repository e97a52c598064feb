-- The range of the points of time.
use Rattle.std.specs.Prelude.{◌≡◌, ℤ, pos, neg_ℤ, ◌≤ℤ◌, IsTrue, All, List}
use Rattle.tql_spec.specs.Datum.{Datum, Null, Int, Text, Day, Moment, Row}
use Rattle.tql_spec.specs.Calendar.{first_moment, high, start_offset, is_date, days_after_start, moment_day}
use Rattle.tql_spec.specs.Calendar.{moment_micros, moment_number}

-- a day from 0001-01-01 to 9999-12-31
abbrev pub IsDay : ℤ → Type 0
IsDay d = (neg_ℤ (pos start_offset) ≤ℤ d) × (d ≤ℤ pos 2_932_896)

-- a moment from 0001-01-01 00:00:00 to 9999-12-31 23:59:59.999999
abbrev pub IsMoment : ℤ → Type 0
IsMoment m = (first_moment ≤ℤ m) × (m ≤ℤ high)

-- a printable value: a day or a moment in the calendar, or any other value
abbrev pub IsPrintable : Datum → Type 0
IsPrintable Null = Unit {0}
IsPrintable (Int n) = Unit {0}
IsPrintable (Text t) = Unit {0}
IsPrintable (Day d) = IsDay d
IsPrintable (Moment m) = IsMoment m

-- rows of printable values
abbrev pub ArePrintable : List Row → Type 0
ArePrintable rows = All (All IsPrintable) rows

-- the parts of each moment are the date and the time of that moment
abbrev pub MomentsReadBack : Type 0
MomentsReadBack = (m : ℤ) → IsMoment m
    → IsTrue (is_date (moment_day m).0 (moment_day m).1 (moment_day m).2) ×
    (moment_number (days_after_start (moment_day m).0 (moment_day m).1 (moment_day m).2) (moment_micros m) ≡ m)
