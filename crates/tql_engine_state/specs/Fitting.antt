-- Rows that fit the tables of a state, in each of its copies.
use Rattle.std.specs.Prelude.{◌≡◌, ◌≤◌, ◌≤ℤ◌, ◌<ℤ◌, List, [], ◌∷◌, length, Option, Some, None}
use Rattle.std.specs.List.{AllByRecursion}
use Rattle.tql_spec.specs.Calendar.{first_moment, high}
use Rattle.tql_spec.specs.Definition.{TableDef, Stamped}
use Rattle.tql_spec.specs.History.{Copy, Entry}
use Rattle.tql_spec.specs.Machine.{State}
use Rattle.tql_catalog.specs.Defined.{IsDefinition}
use Rattle.tql_catalog.specs.Rows.{IsRowOf}

-- a row of the table that starts at a moment of the calendar, below its end
pub record RowFits (d : TableDef) (r : Stamped) : Type 0 where
  pub cells : IsRowOf d r.cells
  pub not_before : first_moment ≤ℤ r.start
  pub below : r.start <ℤ high

-- each row of a bag fits
abbrev pub RowsFit : TableDef → List Stamped → Type 0
RowsFit d rows = AllByRecursion (RowFits d) rows

-- a copy has rows for each table, and they fit it
abbrev pub CopyFits : List TableDef → Copy → Type 0
CopyFits [] [] = Unit {0}
CopyFits (d ∷ ds) (rows ∷ copy) = RowsFit d rows × CopyFits ds copy
CopyFits _ _ = ⊥

-- each copy fits
abbrev pub HistoryFits : List TableDef → List Entry → Type 0
HistoryFits ds [] = Unit {0}
HistoryFits ds (e ∷ older) = CopyFits ds e.copy × HistoryFits ds older

-- the working copy of an open transaction fits
abbrev pub WorkingFits : List TableDef → Option Entry → Type 0
WorkingFits ds None = Unit {0}
WorkingFits ds (Some e) = CopyFits ds e.copy

-- a table of at most 64 columns
abbrev pub IsNarrow : TableDef → Type 0
IsNarrow d = length d.columns ≤ 64

-- the state has these tables; each definition is valid and not too wide, and the rows fit
pub record StateFits (ds : List TableDef) (s : State) : Type 0 where
  pub definitions : s.definitions ≡ ds
  pub defined : AllByRecursion IsDefinition ds
  pub narrow : AllByRecursion IsNarrow ds
  pub rows : HistoryFits ds s.history
  pub working : WorkingFits ds s.transaction
