-- Rows by their tuples, and periods that share a point.
use Rattle.std.specs.Prelude.{ℕ, Bool, true, false, not, ◌&&◌, ◌||◌, List, [], ◌∷◌, map, filter, Option, Some}
use Rattle.tql_spec.specs.Truth.{is_true}
use Rattle.tql_spec.specs.Datum.{Datum, Row, Equals, compare}
use Rattle.tql_spec.specs.Period.{Period, share_a_point}
use Rattle.tql_spec.specs.Definition.{TableDef, cell, period_of}

-- the values of a row in some columns
abbrev pub tuple : List ℕ → Row → List Datum
tuple columns r = map (cell r) columns

-- whether a row has these values in these columns; NULL equals nothing
abbrev pub has_tuple : List ℕ → List Datum → Row → Bool
has_tuple [] [] r = true
has_tuple (c ∷ cs) (v ∷ vs) r = is_true (compare Equals (cell r c) v) && has_tuple cs vs r
has_tuple _ _ r = false

-- the rows that have these values
abbrev pub with_tuple : List ℕ → List Datum → List Row → List Row
with_tuple columns values rows = filter (has_tuple columns values) rows

-- whether a row's period shares a point with another; always, unless by period
abbrev pub is_touched : TableDef → Bool → Period → Row → Bool
is_touched d by_period x r = not by_period || share_a_point (period_of d r) x

-- whether two optional periods share a point
abbrev pub share : Option Period → Option Period → Bool
share (Some x) (Some y) = share_a_point x y
share _ _ = false
