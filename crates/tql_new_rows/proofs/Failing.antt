-- Cells and CHECKs by their numbers.
use Rattle.std.proofs.Common.{◌≡◌, ℕ, ◌<◌, ◌≤◌, length, Some, None}
use Rattle.std.specs.Prelude.{option_map, slice_get}
use Rattle.std.proofs.lemmas.Option.{slice_get-map, slice_get-get_or, slice_get_past}
use Rattle.tql_catalog.specs.Definitions.{checks_of}
use Rattle.tql_catalog.specs.declared.constraint.Checks.{Checks}
use Rattle.tql_expr.specs.Meaning.{cond}
use Rattle.tql_spec.specs.Datum.{Row, Null}
use Rattle.tql_spec.specs.Definition.{cell}

pub cell_at : (row : Row) (n : ℕ) → n < length row → slice_get row n ≡ Some (cell row n)
cell_at row n l = slice_get-get_or row n Null l

pub no_cell_at : (row : Row) (n : ℕ) → length row ≤ n → slice_get row n ≡ None
no_cell_at row n l = slice_get_past row n l

pub check_at : (checks : Checks) (n : ℕ)
    → slice_get (checks_of checks) n ≡ option_map (cond checks.terms) (slice_get checks.conditions.items n)
check_at checks n = slice_get-map (cond checks.terms) checks.conditions.items n
