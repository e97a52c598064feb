-- The literals of values.
use Rattle.std.specs.Prelude.{ℕ, List, ◌∷◌, ◌++◌, [], codes}
use Rattle.std.specs.Fmt.{signed_decimal}
use Rattle.tql_spec.specs.Datum.{Datum, Null, Int, Text, Day, Moment}
use Rattle.tql_spec.specs.Text.{cell_text, quoted}

-- the text that represents a value in a statement
abbrev pub literal_text : Datum → List ℕ
literal_text Null = codes "NULL"
literal_text (Int n) = signed_decimal n
literal_text (Text t) = quoted 39 t
literal_text (Day d) = codes "DATE '" ++ cell_text (Day d) ++ 39 ∷ []
literal_text (Moment m) = codes "TIMESTAMP '" ++ cell_text (Moment m) ++ 39 ∷ []
