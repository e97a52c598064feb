-- Comma-separated values can be read back up to what a field shows: equal texts come from tables that show the same.
use Rattle.std.specs.Prelude.{◌≡◌, ℕ, List, map, Option, Some, None}
use Rattle.std.specs.Fmt.{signed_decimal}
use Rattle.tql_result_laws.specs.Csv.{csv_text}
use Rattle.tql_spec.specs.Datum.{Datum, Null, Int, Text, Day, Moment, Row}
use Rattle.tql_spec.specs.Definition.{Name}
use Rattle.tql_spec.specs.Text.{cell_text}
use Rattle.tql_result_laws.specs.ReadBack.{IsTable}

-- what the field of a value shows: nothing, or a text, which may also be that of a number, a date or a timestamp
abbrev pub shown : Datum → Option (List ℕ)
shown Null = None
shown (Int n) = Some (signed_decimal n)
shown (Text t) = Some t
shown (Day d) = Some (cell_text (Day d))
shown (Moment m) = Some (cell_text (Moment m))

-- tables with the same text have the same headings, and show the same
abbrev pub TablesReadBack : Type 0
TablesReadBack = (hs ks : List Name) (rs qs : List Row) → IsTable hs rs → IsTable ks qs
    → csv_text hs rs ≡ csv_text ks qs → (hs ≡ ks) × (map (map shown) rs ≡ map (map shown) qs)
