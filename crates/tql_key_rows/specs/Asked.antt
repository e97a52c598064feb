-- Lookups in the rows of a store: by a tuple, and by an id.
use Rattle.std.specs.Prelude.{◌≡◌, ℕ, ℤ, Bool, ◌&&◌, List, map, filter, length, All, Option, option_map}
use Rattle.tql_spec.specs.Bag.{SameBag}
use Rattle.tql_spec.specs.Constraint.{shown_rows}
use Rattle.tql_spec.specs.Datum.{Datum, Row}
use Rattle.tql_spec.specs.Definition.{TableDef, Stamped, Version, shown}
use Rattle.tql_spec.specs.Period.{Period}
use Rattle.tql_catalog.specs.Rows.{stored_width}
use Rattle.tql_catalog.specs.declared.catalog.Table.{Table}
use Rattle.tql_store.specs.Changes.{starting}
use Rattle.tql_store.specs.StoreModel.{StoreModel, live}
use Rattle.tql_store.specs.Views.{current_named}
use Rattle.tql_versions.specs.Changes.{is_current}
use Rattle.tql_versions.specs.Readings.{version_shown}
use Rattle.tql_versions.specs.declared.version.Version as code
use Rattle.tql_key_rows.specs.Touched.{has_tuple, is_touched}

-- ---- the rows of a table

-- the current rows, as a bag
abbrev pub current_rows : StoreModel → ℕ → List Stamped
current_rows h t = map (λ (v : Version). v.row) (filter is_current (live h t))

-- `rows` is this bag, and each row has as many cells as its table stores
pub record AreRowsOf (h : StoreModel) (table : Table) (rows : List Stamped) : Type 0 where
  pub same : SameBag rows (current_rows h table.id)
  pub wide : All (λ (r : Stamped). length r.cells ≡ stored_width table.definition) rows

-- the current row that an id names
abbrev pub row_named : StoreModel → ℕ → ℕ → Option Stamped
row_named h t id = option_map (λ (v : Version). v.row) (current_named h t id)

-- the row of a version that was found
abbrev pub row_found : code.Version → Stamped
row_found v = (version_shown v).row

-- the rows with a tuple
abbrev pub rows_with : TableDef → List ℕ → List Datum → List Stamped → List Stamped
rows_with d columns values rows = filter (λ r. has_tuple columns values (shown d r)) rows

-- the rows with a tuple; by period, only those that share a point with the period
abbrev pub rows_in : TableDef → List ℕ → List Datum → Bool → Period → List Stamped → List Stamped
rows_in d columns values by_period x rows =
    filter (λ r. has_tuple columns values (shown d r) && is_touched d by_period x (shown d r)) rows

-- ---- added rows

-- the added rows, which start at a moment, as the table shows them
abbrev pub new_rows : TableDef → ℤ → List Row → List Row
new_rows d m added = shown_rows d (map (starting m) added)
