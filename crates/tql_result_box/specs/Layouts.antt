-- The layouts of columns, computed row by row.
use Rattle.std.specs.Prelude.{max, List, [], ◌∷◌, Option, Some, None}
use Rattle.tql_spec.specs.Datum.{Datum, Row}
use Rattle.tql_result_box.specs.declared.layout.Layout.{Layout}
use Rattle.tql_result_box.specs.Box.{unknown, value_width, is_number}

-- the layout of the first column
abbrev pub first_layout : List Layout → Layout
first_layout [] = unknown
first_layout (l ∷ ls) = l

-- the first option if it is known, otherwise the second
abbrev pub known : {A : Type 0} → Option A → Option A → Option A
known (Some a) o = Some a
known None o = o

-- a layout after one more value
abbrev pub widened : Layout → Datum → Layout
widened l d = record { width = max l.width (value_width d); number = known l.number (is_number d) }

-- layouts after one more row
abbrev pub with_row : List Layout → Row → List Layout
with_row [] r = []
with_row (l ∷ ls) [] = l ∷ ls
with_row (l ∷ ls) (d ∷ ds) = widened l d ∷ with_row ls ds
