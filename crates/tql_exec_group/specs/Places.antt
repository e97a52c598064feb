-- The indexes of columns among those of GROUP BY, and the cells of a group's key by them.
use Rattle.std.specs.Prelude.{◌≡◌, ℕ, ◌+◌, List, [], ◌∷◌, Option, Some, None, if◌then◌else◌, nat_eq, slice_index_or}
use Rattle.tql_spec.specs.Datum.{Datum, Null, Row}

-- the first index of a column in a list whose first column has this index
abbrev pub place_from : ℕ → List ℕ → ℕ → Option ℕ
place_from place [] column = None
place_from place (c ∷ cs) column = if nat_eq column c then Some place else place_from (place + 1) cs column

-- a table from each column to its first index among these columns
abbrev pub ArePlaces : List ℕ → List (Option ℕ) → Type 0
ArePlaces columns places = (column : ℕ) → slice_index_or places column None ≡ place_from 0 columns column

-- the cell of a key at an index
abbrev pub cell_in : Row → Option ℕ → Datum
cell_in key None = Null
cell_in key (Some place) = slice_index_or key place Null

-- the cell of a column in the key of a group, or NULL if it is no grouping column
abbrev pub key_at : List ℕ → Row → ℕ → Datum
key_at columns key column = cell_in key (place_from 0 columns column)
