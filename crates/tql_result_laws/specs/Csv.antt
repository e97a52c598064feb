-- The text of a result table as comma-separated values (RFC 4180).
use Rattle.std.specs.Prelude.{ℕ, Bool, true, ◌||◌, ◌==◌, List, [], ◌∷◌, ◌++◌, map, if◌then◌else◌}
use Rattle.std.specs.Fmt.{signed_decimal}
use Rattle.std.specs.List.{flat_map, list_any, join_with_byte}
use Rattle.tql_spec.specs.Datum.{Datum, Null, Int, Text, Day, Moment, Row}
use Rattle.tql_spec.specs.Definition.{Name}
use Rattle.tql_spec.specs.Text.{quoted, cell_text}

-- a comma, a quote, a carriage return or a line feed
abbrev pub is_sign : ℕ → Bool
is_sign b = (b == 44) || (b == 34) || (b == 13) || (b == 10)

-- whether a text is quoted: it contains one of these bytes, or it is empty, which distinguishes it from null
abbrev pub is_quoted : List ℕ → Bool
is_quoted [] = true
is_quoted (b ∷ bs) = list_any is_sign (b ∷ bs)

-- a text as a field
abbrev pub text_field : List ℕ → List ℕ
text_field t = if is_quoted t then quoted 34 t else t

-- a value as a field; null is an empty field
abbrev pub field : Datum → List ℕ
field Null = []
field (Int n) = signed_decimal n
field (Text t) = text_field t
field (Day d) = cell_text (Day d)
field (Moment m) = cell_text (Moment m)

-- a line of fields with its line end
abbrev pub csv_line : List (List ℕ) → List ℕ
csv_line fields = join_with_byte 44 fields ++ 13 ∷ 10 ∷ []

-- the bytes of a table: a line of its headings, and one for each row
abbrev pub csv_text : List Name → List Row → List ℕ
csv_text headings rows = csv_line (map text_field headings) ++ flat_map (λ r. csv_line (map field r)) rows
