-- JSON can be read back up to the JSON form of values: equal lines come from answers with the same JSON values.
use Rattle.std.specs.Prelude.{◌≡◌, ◌<◌, ◌^◌, ℕ, List, map, ℤ}
use Rattle.tql_spec.specs.Answer.{Answer, Replied}
use Rattle.tql_spec.specs.Datum.{Datum, Null, Int, Text, Day, Moment}
use Rattle.tql_result_laws.specs.Json.{Fault, json_text}
use Rattle.tql_spec.specs.Machine.{Table, Refused}
use Rattle.tql_spec.specs.Text.{cell_text}
use Rattle.tql_result_laws.specs.ReadBack.{IsCount, IsWhole}

-- a JSON value: null, a number or a string
pub data Said : Type 0 where
  Nothing : Said
  Number : ℤ → Said
  Words : List ℕ → Said

-- the JSON form of a value: a date or a timestamp is the string that spells it
abbrev pub said : Datum → Said
said Null = Nothing
said (Int n) = Number n
said (Text t) = Words t
said (Day d) = Words (cell_text (Day d))
said (Moment m) = Words (cell_text (Moment m))

-- tables with the same headings and the same JSON values, or equal answers
abbrev pub SayTheSame : Answer → Answer → Type 0
SayTheSame (Replied (Table hs rs)) (Replied (Table ks qs)) = (hs ≡ ks) × (map (map said) rs ≡ map (map said) qs)
SayTheSame a b = a ≡ b

-- two faults have the same known details
pub record Same (f g : Fault) : Type 0 where
  pub column : f.column ≡ g.column
  pub detail : f.detail ≡ g.detail
  pub hint : f.hint ≡ g.hint
  pub constraint : f.constraint ≡ g.constraint
  pub columns : f.columns ≡ g.columns
  pub row : f.row ≡ g.row

-- the same for the faults of two refusals
abbrev pub SameFault : Answer → Fault → Fault → Type 0
SameFault (Replied (Refused e)) f g = Same f g
SameFault _ f g = Unit {0}

-- a fault whose numbers fit in 64 bits
abbrev pub IsFault : Fault → Type 0
IsFault f = IsCount f.column × IsCount f.row

-- equal lines have the same statement number, the same line number, and answers with the same JSON values; for a
-- refusal, also the same details of the fault
abbrev pub LinesReadBack : Type 0
LinesReadBack = (m n k l : ℕ) (f g : Fault) (a b : Answer) → m < 2 ^ 64 → n < 2 ^ 64 → k < 2 ^ 64 → l < 2 ^ 64
    → IsFault f → IsFault g → IsWhole a → IsWhole b → json_text m k f a ≡ json_text n l g b
    → (m ≡ n) × (k ≡ l) × SayTheSame a b × SameFault a f g
