-- The text of a table as JSON Lines: each row is one object on one line.
use Rattle.std.specs.Prelude.{ℕ, List, [], ◌∷◌}
use Rattle.std.specs.List.{flat_map}
use Rattle.tql_spec.specs.Datum.{Row}
use Rattle.tql_spec.specs.Definition.{Name}
use Rattle.tql_spec.specs.Text.{line}
use Rattle.tql_result_laws.specs.Json.{json_value, member, object}

-- each value, with the heading of its column as the key
abbrev pub row_members : List Name → Row → List (List ℕ)
row_members (h ∷ hs) (d ∷ ds) = member h (json_value d) ∷ row_members hs ds
row_members _ _ = []

-- the line of a row
abbrev pub row_line : List Name → Row → List ℕ
row_line headings r = line (object (row_members headings r))

-- the bytes of a table: a line for each row
abbrev pub jsonl_text : List Name → List Row → List ℕ
jsonl_text headings rows = flat_map (row_line headings) rows
