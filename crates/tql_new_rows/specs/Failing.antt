-- The reasons why a new row fails.
use Rattle.std.specs.Prelude.{ℕ, Bool, true, false, ◌&&◌, List, [], Option, Some, None, slice_get, slice_index_or}
use Rattle.tql_spec.specs.Datum.{Datum, Row, is_null}
use Rattle.tql_spec.specs.Definition.{TableDef, Column}
use Rattle.tql_spec.specs.Expression.{Cond, judge}
use Rattle.tql_spec.specs.Truth.{Truth, is_false}
use Rattle.tql_spec.specs.Binding.{all_assignable}
use Rattle.tql_spec.specs.Change.{is_too_long}
use Rattle.tql_dml.specs.Cells.{no_column, falls_by, unstamped}
use Rattle.tql_new_rows.specs.declared.failures.Failed.{Failed}
use Rattle.tql_new_rows.specs.declared.failures.Failed.TheVariants.{LongText, Null, Period, CheckRange, Check}
use Rattle.tql_new_rows.specs.declared.failures.Failure.{Failure}

-- whether a cell is a text longer than the column at an index allows
abbrev pub is_long_cell : List Column → Option ℕ → Option Datum → Bool
is_long_cell columns (Some i) (Some v) = is_too_long (slice_index_or columns i no_column).limit v
is_long_cell columns _ _ = false

-- whether a cell is NULL and the column at an index is NOT NULL
abbrev pub is_lacking_cell : List Column → Option ℕ → Option Datum → Bool
is_lacking_cell columns (Some i) (Some v) = (slice_index_or columns i no_column).required && is_null v
is_lacking_cell columns _ _ = false

-- whether a CHECK is out of range
abbrev pub is_out_of_range : Option Truth → Bool
is_out_of_range None = true
is_out_of_range (Some t) = false

abbrev pub is_check_out_of_range : Option Cond → Row → Bool
is_check_out_of_range (Some c) row = is_out_of_range (judge [] row c)
is_check_out_of_range None row = false

-- whether a CHECK is FALSE
abbrev pub is_judged_false : Option Truth → Bool
is_judged_false None = false
is_judged_false (Some t) = is_false t

abbrev pub is_check_false : Option Cond → Row → Bool
is_check_false (Some c) row = is_judged_false (judge [] row c)
is_check_false None row = false

-- whether a row fails for this reason, given its stored cells
abbrev pub fails : TableDef → Row → Failed → Bool
fails d row (LongText n) = is_long_cell d.columns (slice_get (all_assignable d) n) (slice_get row n)
fails d row (Null n) = is_lacking_cell d.columns (slice_get (all_assignable d) n) (slice_get row n)
fails d row Period = falls_by d.application (unstamped d row)
fails d row (CheckRange n) = is_check_out_of_range (slice_get d.checks n) (unstamped d row)
fails d row (Check n) = is_check_false (slice_get d.checks n) (unstamped d row)

-- whether the row of a failure fails for its reason
abbrev pub some_fails : TableDef → Option Row → Failed → Bool
some_fails d (Some row) failed = fails d row failed
some_fails d None failed = false

abbrev pub is_failure : TableDef → List Row → Failure → Bool
is_failure d rows f = some_fails d (slice_get rows f.row) f.failed
