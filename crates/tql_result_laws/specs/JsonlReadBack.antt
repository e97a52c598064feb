-- JSON Lines can be read back up to the JSON form of values: equal texts come from rows with the same JSON values.
use Rattle.std.specs.Prelude.{◌≡◌, ◌<◌, List, length, map}
use Rattle.tql_spec.specs.Datum.{Row}
use Rattle.tql_spec.specs.Definition.{Name}
use Rattle.tql_result_laws.specs.Jsonl.{jsonl_text}
use Rattle.tql_result_laws.specs.JsonReadBack.{said}
use Rattle.tql_result_laws.specs.ReadBack.{IsTable}

-- tables with the same text have the same JSON values, and the same headings if they have a row
abbrev pub RowsReadBack : Type 0
RowsReadBack = (hs ks : List Name) (rs qs : List Row) → IsTable hs rs → IsTable ks qs
    → jsonl_text hs rs ≡ jsonl_text ks qs
    → (map (map said) rs ≡ map (map said) qs) × (0 < length rs → hs ≡ ks)
