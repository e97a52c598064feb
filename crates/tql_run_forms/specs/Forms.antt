-- The texts of the answers of a run in each form.
use Rattle.std.specs.Prelude.{◌≡◌, ◌⊎◌, ℕ, suc, ◌-◌, ◌^◌, min, Bool, true, false, List, [], ◌∷◌, ◌++◌, length}
use Rattle.std.specs.Prelude.{None, if◌then◌else◌}
use Rattle.std.specs.List.{list_any}
use Rattle.tql_spec.specs.Answer.{Answer, Replied, Accepted}
use Rattle.tql_spec.specs.Datum.{Row}
use Rattle.tql_spec.specs.Definition.{Name}
use Rattle.tql_spec.specs.Machine.{Done, Table, Refused}
use Rattle.tql_spec.specs.Text.{answer_text}
use Rattle.tql_result_box.specs.Box.{box_layouts, box_text}
use Rattle.tql_result_laws.specs.Csv.{csv_text}
use Rattle.tql_result_laws.specs.Json.{Fault, unknown, json_text}
use Rattle.tql_result_laws.specs.Jsonl.{jsonl_text}
use Rattle.tql_run.specs.Texts.{Texts, Written}

-- whether an answer is a table
abbrev pub is_table : Answer → Bool
is_table (Replied (Table headings rows)) = true
is_table (Replied (Done v n)) = false
is_table (Replied (Refused e)) = false
is_table Accepted = false

-- ---- comma-separated values

-- a table, after an empty line if another table came before it
abbrev pub csv_part : Bool → List Name → List Row → List ℕ
csv_part has_table headings rows = (if has_table then 13 ∷ 10 ∷ [] else []) ++ csv_text headings rows

-- an answer: only tables have a text
abbrev pub csv_answer : Bool → Answer → List ℕ
csv_answer has_table (Replied (Table headings rows)) = csv_part has_table headings rows
csv_answer has_table (Replied (Done v n)) = []
csv_answer has_table (Replied (Refused e)) = []
csv_answer has_table Accepted = []

abbrev pub csv_texts : Texts
csv_texts earlier number line answer text = text ≡ csv_answer (list_any is_table earlier) answer

-- ---- JSON Lines

-- an answer: only tables have a text
abbrev pub jsonl_answer : Answer → List ℕ
jsonl_answer (Replied (Table headings rows)) = jsonl_text headings rows
jsonl_answer (Replied (Done v n)) = []
jsonl_answer (Replied (Refused e)) = []
jsonl_answer Accepted = []

abbrev pub jsonl_texts : Texts
jsonl_texts earlier number line answer text = text ≡ jsonl_answer answer

-- ---- plain text without refusals

abbrev pub accepted_answer : Answer → List ℕ
accepted_answer (Replied (Refused e)) = []
accepted_answer (Replied (Done v n)) = answer_text (Replied (Done v n))
accepted_answer (Replied (Table headings rows)) = answer_text (Replied (Table headings rows))
accepted_answer Accepted = answer_text Accepted

abbrev pub accepted_texts : Texts
accepted_texts earlier number line answer text = text ≡ accepted_answer answer

-- ---- boxes

-- a table in a box, with its columns laid out by their values, or with no layout at all
abbrev pub IsBox : List Name → List Row → List ℕ → Type 0
IsBox headings rows text =
    (text ≡ box_text (box_layouts headings rows) headings rows) ⊎ (text ≡ box_text [] headings rows)

-- an answer: the text of a refusal is empty
abbrev pub IsBoxAnswer : Answer → List ℕ → Type 0
IsBoxAnswer (Replied (Table headings rows)) text = IsBox headings rows text
IsBoxAnswer (Replied (Refused e)) text = text ≡ []
IsBoxAnswer (Replied (Done v n)) text = text ≡ answer_text (Replied (Done v n))
IsBoxAnswer Accepted text = text ≡ answer_text Accepted

abbrev pub box_texts : Texts
box_texts earlier number line answer text = IsBoxAnswer answer text

-- ---- JSON

-- the maximum statement number
abbrev pub most_numbers : ℕ
most_numbers = 2 ^ 64 - 1

-- a refusal with some known details of its fault; without a column, the line is that of the statement
pub record IsJsonRefusal (number line : ℕ) (answer : Answer) (text : List ℕ) : Type 0 where
  pub at : ℕ
  pub fault : Fault
  pub is_at : fault.column ≡ None → at ≡ line
  pub is : text ≡ json_text number at fault answer

-- the text of the answer to the statement with this number, on this line
abbrev pub IsJsonAnswer : (number line : ℕ) → Answer → List ℕ → Type 0
IsJsonAnswer number line (Replied (Refused e)) text = IsJsonRefusal number line (Replied (Refused e)) text
IsJsonAnswer number line (Replied (Done v n)) text = text ≡ json_text number line unknown (Replied (Done v n))
IsJsonAnswer number line (Replied (Table headings rows)) text =
    text ≡ json_text number line unknown (Replied (Table headings rows))
IsJsonAnswer number line Accepted text = text ≡ json_text number line unknown Accepted

-- the lists of answers that a form with this statement count may have written
abbrev pub json_wrote : ℕ → Written
json_wrote statements answers = statements ≡ min (length answers) most_numbers

-- a statement is numbered by the answers before it
abbrev pub json_texts : Texts
json_texts earlier number line answer text = IsJsonAnswer (min (suc (length earlier)) most_numbers) line answer text
