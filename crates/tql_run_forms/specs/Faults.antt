-- The line of JSON for an answer, given the detail of its fault.
use Rattle.std.specs.Prelude.{ℕ, List, [], ◌∷◌, Option, Some, None, map, option_map, string_bytes}
use Rattle.std.specs.Borrow.{Bor}
use Rattle.tql_spec.specs.Answer.{Answer, Replied, Accepted}
use Rattle.tql_spec.specs.Machine.{Done, Table, Refused}
use Rattle.tql_detail.specs.declared.detail.Detail.{Detail}
use Rattle.tql_detail.specs.declared.place.Place.{Place}
use Rattle.tql_result_laws.specs.Json.{Fault, unknown, json_text}

-- the line of a place, or the line of the statement if there is no place
abbrev pub line_at : ℕ → Option Place → ℕ
line_at line (Some p) = p.line
line_at line None = line

-- the line of a fault, given its detail
abbrev pub line_of_detail : ℕ → Option (Bor Detail) → ℕ
line_of_detail line (Some d) = line_at line d.now.place
line_of_detail line None = line

-- a non-empty list, or None
abbrev pub listed : {A : Type 0} → List A → Option (List A)
listed [] = None
listed (x ∷ xs) = Some (x ∷ xs)

-- the known details of a fault
abbrev pub fault_of_detail : Option (Bor Detail) → Fault
fault_of_detail (Some d) = record {
  column = option_map (λ (p : Place). p.column) d.now.place;
  detail = Some (string_bytes d.now.words);
  hint = option_map string_bytes d.now.hint;
  constraint = option_map string_bytes d.now.constraint;
  columns = option_map (map string_bytes) (listed d.now.columns.items);
  row = d.now.row;
}
fault_of_detail None = unknown

-- a line of JSON: a refusal includes its detail
abbrev pub json_of : (number line : ℕ) → Option (Bor Detail) → Answer → List ℕ
json_of number line detail (Replied (Refused e)) =
    json_text number (line_of_detail line detail) (fault_of_detail detail) (Replied (Refused e))
json_of number line detail (Replied (Done v n)) = json_text number line unknown (Replied (Done v n))
json_of number line detail (Replied (Table headings rows)) =
    json_text number line unknown (Replied (Table headings rows))
json_of number line detail Accepted = json_text number line unknown Accepted
