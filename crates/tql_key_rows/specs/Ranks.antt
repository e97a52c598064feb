-- The rank of a row, by which rows are sorted.
use Rattle.std.specs.Prelude.{ℤ, ℕ, List, [], ◌∷◌, ◌++◌}
use Rattle.tql_spec.specs.Datum.{Row, Int}
use Rattle.tql_spec.specs.Definition.{TableDef, period_of}
use Rattle.tql_key_rows.specs.Touched.{tuple}

-- the start of a row's period
abbrev pub starts_at : TableDef → Row → ℤ
starts_at d r = (period_of d r).start

-- the rank of a row: its tuple, then the start of its period
abbrev pub rank : TableDef → List ℕ → Row → Row
rank d columns r = tuple columns r ++ Int (starts_at d r) ∷ []
