-- The columns to which values may be assigned, and the values of rows.
use Rattle.std.specs.Prelude.{◌≡◌, ℕ, ℤ, Bool, true, not, ◌&&◌, ◌==◌, ◌||◌, false, nat_lt, IsTrue, List, [], ◌∷◌}
use Rattle.std.specs.Prelude.{length, map, All, Option, Some, None}
use Rattle.std.specs.List.{list_all}
use Rattle.tql_spec.specs.Datum.{Row, is_null}
use Rattle.tql_spec.specs.Period.{rises}
use Rattle.tql_spec.specs.Definition.{TableDef, System, Application, cell, period_between, with_generated}
use Rattle.tql_spec.specs.Creation.{has_number}
use Rattle.tql_spec.specs.Binding.{all_assignable, is_generated}
use Rattle.tql_value.specs.Points.{IsPrintable}

-- whether the generated columns, if there are any, are two of `width` columns
abbrev pub has_system : Option System → ℕ → Bool
has_system None width = true
has_system (Some s) width = nat_lt s.start width && nat_lt s.end width && not (s.start == s.end)

-- the number of columns that are not generated
abbrev pub stored_width : TableDef → ℕ
stored_width d = length (all_assignable d)

-- neither end of this period is null in the row, and the start is before the end
pub record RisesIn (row : Row) (a : Application) : Type 0 where
  pub start : is_null (cell row a.start) ≡ false
  pub end : is_null (cell row a.end) ≡ false
  pub rising : IsTrue (rises (period_between row a.start a.end))

-- the same for the application period of a row, if its table has one
abbrev pub RisesBy : Option Application → Row → Type 0
RisesBy None row = Unit {0}
RisesBy (Some a) row = RisesIn row a

-- the same for stored cells, whichever moments are in the generated columns
abbrev pub HasRisingPeriod : TableDef → Row → Type 0
HasRisingPeriod d cells = (start end : ℤ) → RisesBy d.application (with_generated d.system cells start end)

-- the values of a row of the table in the columns that are not generated: each is printable, and the row's application
-- period starts before it ends
pub record IsRowOf (d : TableDef) (cells : Row) : Type 0 where
  pub width : length cells ≡ stored_width d
  pub printable : All IsPrintable cells
  pub rising : HasRisingPeriod d cells

-- whether some number occurs twice
abbrev pub numbers_repeat : List ℕ → Bool
numbers_repeat [] = false
numbers_repeat (i ∷ is) = has_number i is || numbers_repeat is

-- whether a user may assign values to these columns: columns of the table, none generated, none listed twice
abbrev pub are_assignable : TableDef → List ℕ → Bool
are_assignable d is = list_all (λ i. nat_lt i (length d.columns) && not (is_generated d i)) is && not
    (numbers_repeat is)

-- the value in this column of a row of the table is the stored cell of this number, whichever moments are in the
-- generated columns
abbrev pub IsStoredAt : TableDef → ℕ → ℕ → Type 0
IsStoredAt d i k = (cells : Row) (start end : ℤ) → length cells ≡ stored_width d
    → cell (with_generated d.system cells start end) i ≡ cell cells k

-- the values in these columns of a row of the table are the stored cells of these numbers, whichever moments are in the
-- generated columns
abbrev pub AreStoredAt : TableDef → List ℕ → List ℕ → Type 0
AreStoredAt d columns stored = (cells : Row) (start end : ℤ) → length cells ≡ stored_width d
    → map (cell (with_generated d.system cells start end)) columns ≡ map (cell cells) stored
