-- Added rows, sorted.
use Rattle.std.specs.Prelude.{ℕ, List, Bool, ◌&&◌}
use Rattle.std.specs.List.{list_any}
use Rattle.std.specs.List.Sorted.{IsSortedBy}
use Rattle.std.specs.Ordering.{is_lt}
use Rattle.tql_spec.specs.Datum.{Datum, Row}
use Rattle.tql_spec.specs.Query.{by_columns}
use Rattle.tql_expr.specs.Shown.{shown_by}
use Rattle.tql_expr.specs.declared.stored.StoredRow.{StoredRow}
use Rattle.tql_key_rows.specs.Touched.{tuple, has_tuple}

-- the rows are sorted by their tuples in these columns
abbrev pub TuplesRise : List ℕ → List StoredRow → Type 0
TuplesRise columns rows =
    IsSortedBy (λ r s. is_lt (by_columns (tuple columns (shown_by r)) (tuple columns (shown_by s)))) rows

-- whether some row with the tuple passes a test
abbrev pub any_with : List ℕ → List Datum → (Row → Bool) → List Row → Bool
any_with columns values test rows = list_any (λ r. has_tuple columns values r && test r) rows
