-- Printed answers can be read back: equal texts come from equal answers.
use Rattle.std.specs.Prelude.{◌≡◌, ℕ, ◌<◌, ◌^◌, IsTrue, All, List, length, Option, Some, None}
use Rattle.tql_spec.specs.Datum.{Datum, Null, Int, Text, Day, Moment, Row, fits}
use Rattle.tql_spec.specs.Definition.{Name}
use Rattle.tql_spec.specs.Machine.{Done, Table, Refused}
use Rattle.tql_spec.specs.Answer.{Answer, Replied, Accepted}
use Rattle.tql_spec.specs.Text.{answer_text}
use Rattle.tql_value.specs.Points.{IsDay, IsMoment}

-- a value that can be stored: a number of 64 bits, a date or a timestamp within the calendar, a text or null
abbrev pub IsKept : Datum → Type 0
IsKept Null = Unit {0}
IsKept (Int n) = IsTrue (fits n)
IsKept (Text t) = Unit {0}
IsKept (Day d) = IsDay d
IsKept (Moment m) = IsMoment m

-- a table with at least one heading, and as many values in each row as headings
pub record IsTable (headings : List Name) (rows : List Row) : Type 0 where
  pub headed : 0 < length headings
  pub wide : All (λ r. length r ≡ length headings) rows
  pub kept : All (All IsKept) rows
  pub few : length rows < 2 ^ 64

-- a count that fits in 64 bits
abbrev pub IsCount : Option ℕ → Type 0
IsCount None = Unit {0}
IsCount (Some n) = n < 2 ^ 64

-- an answer whose parts satisfy these conditions
abbrev pub IsWhole : Answer → Type 0
IsWhole (Replied (Done v n)) = IsCount n
IsWhole (Replied (Table headings rows)) = IsTable headings rows
IsWhole (Replied (Refused e)) = Unit {0}
IsWhole Accepted = Unit {0}

-- answers with the same text are equal
abbrev pub AnswersReadBack : Type 0
AnswersReadBack = (a b : Answer) → IsWhole a → IsWhole b → answer_text a ≡ answer_text b → a ≡ b
