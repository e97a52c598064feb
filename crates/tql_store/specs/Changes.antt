-- What a transaction does to the copies of a table, in the reference model.
use Rattle.std.specs.Prelude.{Bool, not, List, [], ◌∷◌, ◌++◌, map, filter, ℤ, ◌<ℤ◌, Option, Some, None}
use Rattle.tql_spec.specs.Calendar.{high}
use Rattle.tql_spec.specs.Datum.{Datum}
use Rattle.tql_spec.specs.Definition.{Stamped, Version}
use Rattle.tql_spec.specs.History.{TableEntry}
use Rattle.tql_versions.specs.Changes.{Under, undone}
use Rattle.tql_store.specs.Stands.{StandsFor}

-- a row that begins at a moment
abbrev pub starting : ℤ → List Datum → Stamped
starting m cells = record { cells = cells; start = m }

-- the moment of the last copy
abbrev pub newest : List TableEntry → Option ℤ
newest [] = None
newest (e ∷ older) = Some e.moment

-- the rows of the last copy
abbrev pub last_rows : List TableEntry → List Stamped
last_rows [] = []
last_rows (e ∷ older) = e.rows

-- the copies when a transaction begins: another copy of the last one
abbrev pub begun : ℤ → List TableEntry → List TableEntry
begun m [] = record { moment = m; rows = [] } ∷ []
begun m (e ∷ older) = record { moment = m; rows = e.rows } ∷ e ∷ older

-- the rows after a change
abbrev pub rows_after : ℤ → (Stamped → Bool) → List (List Datum) → List Stamped → List Stamped
rows_after m gone added rows = filter (λ r. not (gone r)) rows ++ map (starting m) added

-- the copies without the rows of the table
abbrev pub emptied : List TableEntry → List TableEntry
emptied entries = map (λ (e : TableEntry). record { moment = e.moment; rows = [] }) entries

-- in a transaction, the versions represent the copies with the working one; without its changes, they represent the
-- older copies
pub record InTransaction (horizon : Option ℤ) (versions : List Version) (working : TableEntry)
    (older : List TableEntry) : Type 0 where
  pub since : Under horizon working.moment
  pub below : working.moment <ℤ high
  pub now : StandsFor horizon versions (working ∷ older)
  pub before : StandsFor horizon (undone working.moment versions) older
