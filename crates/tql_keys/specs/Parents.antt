-- The parent rows of a child row, as they are collected.
use Rattle.std.specs.Prelude.{ℕ, ℤ, Bool, not, ◌&&◌, List}
use Rattle.std.specs.List.{list_any}
use Rattle.tql_spec.specs.Datum.{Row}
use Rattle.tql_spec.specs.Definition.{TableDef, period_of, shown}
use Rattle.tql_spec.specs.Period.{holds}
use Rattle.tql_period.specs.Points.{points_of}
use Rattle.tql_period.specs.declared.period.Period as code
use Rattle.tql_store.specs.StoreModel.{is_among}
use Rattle.tql_key_rows.specs.Asked.{row_found}
use Rattle.tql_versions.specs.declared.version.Version.{Version}

-- whether some period holds a point
abbrev pub any_holds : List code.Period → ℤ → Bool
any_holds periods x = list_any (λ y. holds (points_of y) x) periods

-- whether the period of a row of the table holds a point
abbrev pub row_holds : TableDef → ℤ → Row → Bool
row_holds d x r = holds (period_of d r) x

-- whether some found row that survives the change passes a test
abbrev pub any_left : TableDef → List ℕ → (Row → Bool) → List Version → Bool
any_left d removed test found =
    list_any (λ (f : Version). not (is_among f.id removed) && test (shown d (row_found f))) found
