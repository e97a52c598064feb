-- How a date of `jiff` corresponds to the definitions.
use Rattle.std.specs.Prelude.{◌≡◌, ℕ, IsTrue, pos}
use Rattle.jiff.specs.Words.{epoch_day}
use Rattle.jiff_core.specs.declared.civil.date.Date.{Date}
use Rattle.tql_spec.specs.Calendar.{is_date, day_number, Parts}

-- the calendar has a date of these parts, and the `jiff` date has its day number
pub record IsDateOf (y m d : ℕ) (date : Date) : Type 0 where
  pub valid : IsTrue (is_date y m d)
  pub number : epoch_day date ≡ day_number y m d

-- the date has these parts, and the calendar has a date of them
pub record HasParts (date : Date) (parts : Parts) : Type 0 where
  pub year : date.year ≡ pos parts.0
  pub month : date.month ≡ parts.1
  pub day : date.day ≡ parts.2
  pub valid : IsTrue (is_date parts.0 parts.1 parts.2)
