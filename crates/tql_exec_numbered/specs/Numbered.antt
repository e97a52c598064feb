-- Rows that are kept once each, in the order in which they first came.
use Rattle.std.specs.Prelude.{List, [], ◌∷◌, ◌++◌, map, if◌then◌else◌}
use Rattle.std.specs.List.{list_any}
use Rattle.tql_spec.specs.Datum.{Row, same_row}
use Rattle.tql_value.specs.Views.{datum_of_view}
use Rattle.tql_value.specs.declared.value.View.{View}

-- the data of views
abbrev pub seen : List View → Row
seen views = map datum_of_view views

-- these rows, followed by the row unless it is among them
abbrev pub with_row : List Row → Row → List Row
with_row rows row = if list_any (same_row row) rows then rows else rows ++ row ∷ []

-- these rows, and after them each of others that is not among them
abbrev pub with_rows : List Row → List Row → List Row
with_rows rows [] = rows
with_rows rows (row ∷ others) = with_rows (with_row rows row) others
