-- The values that a terminal shows.
use Rattle.std.specs.Prelude.{ℤ, List, map, if◌then◌else◌, codes}
use Rattle.std.specs.Ordering.{int_eq}
use Rattle.tql_spec.specs.Calendar.{high}
use Rattle.tql_spec.specs.Datum.{Datum, Null, Int, Text, Day, Moment, Row}
use Rattle.tql_value.specs.Views.{datum_of_value}
use Rattle.tql_value.specs.declared.value.Value.{Value}

-- the highest moment is shown as the text `-`
abbrev pub dashed_moment : ℤ → Datum
dashed_moment m = if int_eq m high then Text (codes "-") else Moment m

abbrev pub dashed : Datum → Datum
dashed Null = Null
dashed (Int n) = Int n
dashed (Text t) = Text t
dashed (Day d) = Day d
dashed (Moment m) = dashed_moment m

abbrev pub dashed_rows : List Row → List Row
dashed_rows rows = map (map dashed) rows

-- the same of the values in memory
abbrev pub dashed_value : Value → Datum
dashed_value v = dashed (datum_of_value v)

abbrev pub dashed_row : List Value → Row
dashed_row cells = map dashed_value cells
