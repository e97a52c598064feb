-- The text of an answer as one JSON object on one line (RFC 8259).
use Rattle.std.specs.Prelude.{ℕ, ◌+◌, ◌/◌, ◌%◌, ◌||◌, ◌==◌, nat_lt, List, [], ◌∷◌, ◌++◌, map, drop, codes, decimal}
use Rattle.std.specs.Prelude.{Option, Some, None, if◌then◌else◌}
use Rattle.std.specs.Fmt.{signed_decimal}
use Rattle.std.specs.List.{flat_map}
use Rattle.tql_spec.specs.Datum.{Datum, Null, Int, Text, Day, Moment, Row}
use Rattle.tql_spec.specs.Definition.{Name}
use Rattle.tql_spec.specs.Machine.{Verb, Done, Table, Refused}
use Rattle.tql_spec.specs.Refusal.{Refusal}
use Rattle.tql_spec.specs.Answer.{Answer, Replied, Accepted}
use Rattle.tql_spec.specs.Text.{cell_text, line, verb_text, wording, number}

-- a hexadecimal digit
abbrev pub hex_digit : ℕ → ℕ
hex_digit d = if nat_lt d 10 then 48 + d else 87 + d

-- the escape of a control byte
abbrev pub control : ℕ → List ℕ
control b = codes "\\u00" ++ hex_digit (b / 16) ∷ hex_digit (b % 16) ∷ []

-- a byte of a string: quotes, backslashes and control bytes are escaped
abbrev pub escaped : ℕ → List ℕ
escaped b = if (b == 34) || (b == 92) then 92 ∷ b ∷ [] else (if nat_lt b 32 then control b else b ∷ [])

-- bytes between quotes
abbrev pub in_quotes : List ℕ → List ℕ
in_quotes bs = 34 ∷ bs ++ 34 ∷ []

-- a text as a string
abbrev pub string : List ℕ → List ℕ
string bs = in_quotes (flat_map escaped bs)

-- a value; a date or a timestamp is the text that its literal contains
abbrev pub json_value : Datum → List ℕ
json_value Null = codes "null"
json_value (Int n) = signed_decimal n
json_value (Text t) = string t
json_value (Day d) = in_quotes (cell_text (Day d))
json_value (Moment m) = in_quotes (cell_text (Moment m))

-- texts, separated by a comma and a blank
abbrev pub parted : List (List ℕ) → List ℕ
parted [] = []
parted (x ∷ xs) = x ++ flat_map (λ y. 44 ∷ 32 ∷ y) xs

-- an array of these texts
abbrev pub array : List (List ℕ) → List ℕ
array xs = 91 ∷ parted xs ++ 93 ∷ []

-- a member: a name and its value
abbrev pub member : List ℕ → List ℕ → List ℕ
member name value = string name ++ 58 ∷ 32 ∷ value

-- an object of these members
abbrev pub object : List (List ℕ) → List ℕ
object members = 123 ∷ parted members ++ 125 ∷ []

-- a row, as an array
abbrev pub row_array : Row → List ℕ
row_array r = array (map json_value r)

-- a member before others, if its value is known
abbrev pub known : {A : Type 0} → List ℕ → (A → List ℕ) → Option A → List (List ℕ) → List (List ℕ)
known name text None others = others
known name text (Some a) others = member name (text a) ∷ others

-- an array of names
abbrev pub name_array : List Name → List ℕ
name_array names = array (map string names)

-- the known details of the fault of a refused statement. `hint` says what to write instead, `columns` are those in
-- which the row fails, and `row` is the number of the row.
pub record Fault : Type 0 where
  pub column : Option ℕ
  pub detail : Option (List ℕ)
  pub hint : Option (List ℕ)
  pub constraint : Option (List ℕ)
  pub columns : Option (List Name)
  pub row : Option ℕ

-- no known details
abbrev pub unknown : Fault
unknown = record { column = None; detail = None; hint = None; constraint = None; columns = None; row = None }

-- the members for the known details of a fault
abbrev pub fault_members : Fault → List (List ℕ)
fault_members f =
    known (codes "column") decimal f.column
    (known (codes "detail") string f.detail
    (known (codes "hint") string f.hint
    (known (codes "constraint") string f.constraint
    (known (codes "columns") name_array f.columns
    (known (codes "row") decimal f.row [])))))

-- the members of the reply to an executed statement: its words, and the count if there is one
abbrev pub done_members : Verb → Option ℕ → List (List ℕ)
done_members v n = member (codes "reply") (string (verb_text v)) ∷ known (codes "count") decimal n []

-- a table
abbrev pub table_members : List Name → List Row → List (List ℕ)
table_members headings rows =
    member (codes "columns") (name_array headings) ∷ member (codes "rows") (array (map row_array rows)) ∷ []

-- the number and the words of a refusal
abbrev pub refusal_members : Refusal → List (List ℕ)
refusal_members e =
    member (codes "refused") (decimal (number e)) ∷ member (codes "text") (string (drop 4 (wording e))) ∷ []

-- the members of an answer; a refusal includes the known details of its fault
abbrev pub members_of : Fault → Answer → List (List ℕ)
members_of fault (Replied (Done v n)) = done_members v n
members_of fault (Replied (Table headings rows)) = table_members headings rows
members_of fault (Replied (Refused e)) = refusal_members e ++ fault_members fault
members_of fault Accepted = member (codes "reply") (string (codes "OK")) ∷ []

-- the bytes of the answer to the statement with this number, on this line, with the known details of its fault
abbrev pub json_text : ℕ → ℕ → Fault → Answer → List ℕ
json_text statement at fault a =
    line (object
    (member (codes "statement") (decimal statement) ∷ member (codes "line") (decimal at) ∷ members_of fault a))
