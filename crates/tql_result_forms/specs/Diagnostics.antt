-- The known details of a refusal, as data.
use Rattle.std.specs.Prelude.{ℕ, List, [], codes, decimal, map, option_map, string_bytes}
use Rattle.tql_result_forms.specs.declared.json.Diagnostic.{Diagnostic}
use Rattle.tql_result_laws.specs.Json.{Fault, known, name_array, string}

-- the fault described by a diagnostic
abbrev pub fault_of : Diagnostic → Fault
fault_of d = record {
  column = d.column;
  detail = option_map (λ s. s.now) d.detail;
  hint = option_map (λ s. s.now) d.hint;
  constraint = option_map (λ s. s.now) d.constraint;
  columns = option_map (λ l. map string_bytes l.now) d.columns;
  row = d.row;
}

-- the members for the place, what is wrong, and what to write instead
abbrev pub place_members : Fault → List (List ℕ)
place_members f =
    known (codes "column") decimal f.column
    (known (codes "detail") string f.detail (known (codes "hint") string f.hint []))

-- the members for the constraint, the columns and the row
abbrev pub constraint_members : Fault → List (List ℕ)
constraint_members f =
    known (codes "constraint") string f.constraint
    (known (codes "columns") name_array f.columns (known (codes "row") decimal f.row []))
