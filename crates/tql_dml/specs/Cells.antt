-- The cells of new rows, and their faults.
use Rattle.std.specs.Prelude.{◌≡◌, ℕ, Bool, false, not, ◌&&◌, ◌||◌, List, [], ◌∷◌, ◌++◌, map, slice_index_or, pos}
use Rattle.std.specs.Prelude.{int_lt, length, Option, Some, None}
use Rattle.std.specs.List.{flat_map}
use Rattle.tql_spec.specs.Calendar.{high}
use Rattle.tql_spec.specs.Datum.{Datum, Row, Ints, is_null}
use Rattle.tql_spec.specs.Refusal.{Refusal, PeriodNotRising, fault_if}
use Rattle.tql_spec.specs.Definition.{TableDef, Column, Application, without_generated, with_generated, point_of, cell}
use Rattle.tql_spec.specs.Expression.{Cond, judge}
use Rattle.tql_spec.specs.Change.{is_too_long, cell_faults, check_fault, new_row}
use Rattle.tql_spec.specs.Binding.{all_assignable}
use Rattle.tql_value.specs.Views.{datum_of_view}
use Rattle.tql_value.specs.declared.value.View.{View}

-- the column to read if there is none: it allows every value
abbrev pub no_column : Column
no_column = record { name = []; kind = Ints; limit = None; required = false }

-- the columns with these numbers
abbrev pub columns_at : List Column → List ℕ → List Column
columns_at cs is = map (λ i. slice_index_or cs i no_column) is

-- the data of views
abbrev pub data_of : List View → Row
data_of views = map datum_of_view views

-- the stored columns
abbrev pub stored_columns : TableDef → List Column
stored_columns d = columns_at d.columns (all_assignable d)

-- the stored cells of the new row with these values in these columns
abbrev pub stored_cells : TableDef → List ℕ → Row → Row
stored_cells d columns values = without_generated d.system (new_row d columns values)

-- values for these columns, in this order, already are the stored cells
abbrev pub StoresAsGiven : TableDef → List ℕ → Type 0
StoresAsGiven d columns = (values : Row) → length values ≡ length columns → stored_cells d columns values ≡ values

-- whether some text is longer than its column allows
abbrev pub has_long_text : List Column → Row → Bool
has_long_text [] row = false
has_long_text (c ∷ cs) [] = false
has_long_text (c ∷ cs) (v ∷ vs) = is_too_long c.limit v || has_long_text cs vs

-- whether some cell is NULL in a column that is NOT NULL
abbrev pub lacks_a_value : List Column → Row → Bool
lacks_a_value [] row = false
lacks_a_value (c ∷ cs) [] = false
lacks_a_value (c ∷ cs) (v ∷ vs) = (c.required && is_null v) || lacks_a_value cs vs

-- whether both values are not NULL, and the end is not after the start
abbrev pub falls : Datum → Datum → Bool
falls s e = not (is_null s) && not (is_null e) && not (int_lt (point_of s) (point_of e))

-- the same for the application period of a row, if its table has one
abbrev pub falls_by : Option Application → Row → Bool
falls_by None row = false
falls_by (Some a) row = falls (cell row a.start) (cell row a.end)

-- the full row of stored cells, with arbitrary moments in the generated columns: no test reads those
abbrev pub unstamped : TableDef → Row → Row
unstamped d cells = with_generated d.system cells (pos 0) high

-- the faults of a row by its table's CHECKs
abbrev pub checks_faults : List Cond → Row → List Refusal
checks_faults checks row = flat_map (λ c. check_fault (judge [] row c)) checks

-- the faults of a row by its stored cells, with these columns and CHECKs
abbrev pub faults_by : List Column → List Cond → TableDef → Row → List Refusal
faults_by columns checks d cells =
    cell_faults columns cells ++ fault_if (falls_by d.application (unstamped d cells)) PeriodNotRising
    ++ checks_faults checks (unstamped d cells)

-- the faults of a row by its stored cells
abbrev pub stored_faults : TableDef → Row → List Refusal
stored_faults d cells = faults_by (stored_columns d) d.checks d cells

-- the faults of rows
abbrev pub rows_faults : TableDef → List Row → List Refusal
rows_faults d rows = flat_map (stored_faults d) rows
