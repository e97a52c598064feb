-- Printable tables in terms of their values, and the parts of the text of a table.
use Rattle.std.proofs.Common.{◌≡◌, ℕ, List, ◌∷◌, ◌++◌, sym, ◌∙◌, ap, map, length, string_bytes}
use Rattle.std.proofs.lemmas.List.{length-map}
use Rattle.std.proofs.lemmas.List.Elements.{All-map, All-weaker, All-same}
use Rattle.std.proofs.lemmas.List.Folds.{flat_map-map}
use Rattle.std.specs.Prelude.{All, Vec, String, codes, decimal}
use Rattle.std.specs.List.{flat_map, join_with_byte}
use Rattle.tql_spec.specs.Text.{heading_text, line, row_text}
use Rattle.tql_value.specs.Views.{datum_of_value, row_of}
use Rattle.tql_value.specs.declared.value.Value.{Value}
use Rattle.tql_value.specs.Points.{IsPrintable, ArePrintable}
use Rattle.tql_result.proofs.Joining.{all_unmapped}

-- each value of each row can be printed
abbrev pub ValuesPrint : {Z : Type 0} → List (Vec Value Z) → Type 0
ValuesPrint rows = All (λ r. All (λ v. IsPrintable (datum_of_value v)) r.items) rows

-- if the data of the rows can be printed, so can their values
pub values_print : {Z : Type 0} (given rows : List (Vec Value Z)) → given ≡ rows
    → ArePrintable (map (λ r. row_of r.items) rows) → ValuesPrint given
values_print given rows same all =
    All-same (λ r. All (λ v. IsPrintable (datum_of_value v)) r.items) given rows same
    (All-weaker (λ r. All IsPrintable (row_of r.items)) (λ r. All (λ v. IsPrintable (datum_of_value v)) r.items)
    (λ r p. all_unmapped IsPrintable datum_of_value r.items p) rows
    (all_unmapped (All IsPrintable) (λ r. row_of r.items) rows all))

-- if the values of the rows can be printed, so can their data
pub data_print : {Z : Type 0} (given rows : List (Vec Value Z)) → given ≡ rows → ValuesPrint given
    → ArePrintable (map (λ r. row_of r.items) rows)
data_print given rows same all =
    All-map (All IsPrintable) (λ r. row_of r.items) rows
    (All-weaker (λ r. All (λ v. IsPrintable (datum_of_value v)) r.items) (λ r. All IsPrintable (row_of r.items))
    (λ r p. All-map IsPrintable datum_of_value r.items p) rows
    (All-same (λ r. All (λ v. IsPrintable (datum_of_value v)) r.items) rows given (sym same) all))

-- the line of headings
pub headings_are : {Z : Type 0} (given names : List (String Z)) → given ≡ names
    → line (join_with_byte 124 (map heading_text (map string_bytes given))) ≡ line
    (join_with_byte 124 (map heading_text (map string_bytes names)))
headings_are given names same = ap (λ l. line (join_with_byte 124 (map heading_text (map string_bytes l)))) same

-- the lines of rows
pub rows_are : {Z : Type 0} (given rows : List (Vec Value Z)) → given ≡ rows
    → flat_map (λ r. row_text (row_of r.items)) given ≡ flat_map row_text (map (λ r. row_of r.items) rows)
rows_are given rows same = ap (flat_map (λ r. row_text (row_of r.items))) same
    ∙ sym (flat_map-map row_text (λ r. row_of r.items) rows)

-- the line with the number of rows
pub count_is : {Z : Type 0} (n : ℕ) (given rows : List (Vec Value Z)) → n ≡ length given → given ≡ rows
    → line (40 ∷ decimal n ++ codes " rows)") ≡ line
    (40 ∷ decimal (length (map (λ r. row_of r.items) rows)) ++ codes " rows)")
count_is n given rows counted same = ap (λ (k : ℕ). line (40 ∷ decimal k ++ codes " rows)")) (counted
    ∙ ap length same ∙ sym (length-map rows (λ r. row_of r.items)))
