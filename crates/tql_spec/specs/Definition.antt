-- The definition of a table.
use Rattle.std.specs.Prelude.{ℕ, suc, Bool, ◌&&◌, nat_lt, List, [], ◌∷◌, slice_index_or, slice_set, insert, remove, ℤ}
use Rattle.std.specs.Prelude.{pos, Option, Some, None, if◌then◌else◌}
use Rattle.std.specs.Ordering.{int_eq}
use Rattle.tql_spec.specs.Words.{same_text}
use Rattle.tql_spec.specs.Calendar.{high}
use Rattle.tql_spec.specs.Datum.{Datum, Null, Day, Moment, Row, Kind, same_row}
use Rattle.tql_spec.specs.Period.{Period}
use Rattle.tql_spec.specs.Expression.{Cond}

-- a name, by its bytes
abbrev pub Name : Type 0
Name = List ℕ

-- a column; `limit` is the n of VARCHAR(n), and `required` means that null is not allowed
pub record Column : Type 0 where
  pub name : Name
  pub kind : Kind
  pub limit : Option ℕ
  pub required : Bool

-- an application period, with the indices of its columns
pub record Application : Type 0 where
  pub name : Name
  pub start : ℕ
  pub end : ℕ

-- the generated columns of a versioned table, by index
pub record System : Type 0 where
  pub start : ℕ
  pub end : ℕ

-- a key; `by_period` means WITHOUT OVERLAPS
pub record Key : Type 0 where
  pub columns : List ℕ
  pub by_period : Bool

-- a foreign key; `by_period` means PERIOD. The parent is given by name, and its columns by index in the parent
pub record Reference : Type 0 where
  pub columns : List ℕ
  pub by_period : Bool
  pub parent : Name
  pub parent_columns : List ℕ

-- the definition of a table
pub record TableDef : Type 0 where
  pub name : Name
  pub columns : List Column
  pub system : Option System
  pub application : Option Application
  pub keys : List Key
  pub references : List Reference
  pub checks : List Cond

-- the default for a table that does not exist
abbrev pub no_table : TableDef
no_table = record {
  name = [];
  columns = [];
  system = None;
  application = None;
  keys = [];
  references = [];
  checks =
      [];
}

-- the table at this index
abbrev pub table_at : List TableDef → ℕ → TableDef
table_at defs t = slice_index_or defs t no_table

-- the next index, if there is one
abbrev pub next_place : Option ℕ → Option ℕ
next_place None = None
next_place (Some i) = Some (suc i)

-- the index of the table with this name
abbrev pub place_of : Name → List TableDef → Option ℕ
place_of n [] = None
place_of n (d ∷ defs) = if same_text n d.name then Some 0 else next_place (place_of n defs)

-- ---- the periods of a row

-- the point of a day or a moment; 0 for other values
abbrev pub point_of : Datum → ℤ
point_of (Day d) = d
point_of (Moment m) = m
point_of _ = pos 0

-- the point as a day if the other value is a day, else as a moment
abbrev pub point_like : Datum → ℤ → Datum
point_like (Day d) p = Day p
point_like _ p = Moment p

-- the value in a column; null if the row is too short
abbrev pub cell : Row → ℕ → Datum
cell row i = slice_index_or row i Null

-- the period between the points in two columns
abbrev pub period_between : Row → ℕ → ℕ → Period
period_between row s e = record { start = point_of (cell row s); end = point_of (cell row e) }

-- the application period of a row; empty if there is none
abbrev pub period_by : Option Application → Row → Period
period_by None row = record { start = pos 0; end = pos 0 }
period_by (Some a) row = period_between row a.start a.end

-- the application period of a row of the table
abbrev pub period_of : TableDef → Row → Period
period_of d row = period_by d.application row

-- the row with its application period replaced; unchanged if there is none
abbrev pub with_period_by : Option Application → Period → Row → Row
with_period_by None p row = row
with_period_by (Some a) p row =
    slice_set (slice_set row a.start (point_like (cell row a.start) p.start)) a.end (point_like (cell row a.end) p.end)

-- the row of the table with its application period replaced
abbrev pub with_period : TableDef → Period → Row → Row
with_period d = with_period_by d.application

-- ---- rows in copies

-- a row in a copy: its cells without the generated ones, and the moment at which it began
pub record Stamped : Type 0 where
  pub cells : Row
  pub start : ℤ

-- whether two rows of a copy are equal
abbrev pub same_stamped : Stamped → Stamped → Bool
same_stamped a b = same_row a.cells b.cells && int_eq a.start b.start

-- a row of a copy, with the moment at which it ended
pub record Version : Type 0 where
  pub row : Stamped
  pub end : ℤ

-- the cells with ROW START and ROW END inserted at their columns, the left one first
abbrev pub with_generated : Option System → Row → ℤ → ℤ → Row
with_generated None cells start end = cells
with_generated (Some s) cells start end =
    if nat_lt s.start s.end then insert (insert cells s.start (Moment start)) s.end (Moment end)
    else insert (insert cells s.end (Moment end)) s.start (Moment start)

-- the cells that are not generated
abbrev pub without_generated : Option System → Row → Row
without_generated None row = row
without_generated (Some s) row =
    if nat_lt s.start s.end then remove (remove row s.end) s.start else remove (remove row s.start) s.end

-- a version as a row of its table, generated columns included
abbrev pub full : TableDef → Version → Row
full d v = with_generated d.system v.row.cells v.row.start v.end

-- a row of the newest copy as a change sees it: its ROW END is the highest moment
abbrev pub shown : TableDef → Stamped → Row
shown d r = with_generated d.system r.cells r.start high

-- a new row that begins at the moment m, without its generated cells
abbrev pub stamped : TableDef → ℤ → Row → Stamped
stamped d m row = record { cells = without_generated d.system row; start = m }
