-- The copies of the database, newest first, and the versions that a query finds in them.
use Rattle.std.specs.Prelude.{ℕ, Bool, not, ◌&&◌, List, [], ◌∷◌, ◌++◌, map, filter, slice_index_or, ℤ, pos, ◌+ℤ◌, ◌<ℤ◌}
use Rattle.std.specs.Prelude.{int_le, int_lt, if◌then◌else◌}
use Rattle.std.specs.List.{list_any}
use Rattle.tql_spec.specs.Calendar.{high}
use Rattle.tql_spec.specs.Datum.{Row}
use Rattle.tql_spec.specs.Definition.{TableDef, Stamped, Version, same_stamped, full}

-- ---- copies

-- a copy of the database: for each table, in the order of the definitions, its rows
abbrev pub Copy : Type 0
Copy = List (List Stamped)

-- the rows of a table in a copy
abbrev pub rows_in : Copy → ℕ → List Stamped
rows_in copy t = slice_index_or copy t []

-- a copy, and the moment of the commit that made it
pub record Entry : Type 0 where
  pub moment : ℤ
  pub copy : Copy

-- the moments strictly decrease from the newest copy to the oldest, and lie below `until`
abbrev pub FallingFrom : ℤ → List Entry → Type 0
FallingFrom until [] = Unit {0}
FallingFrom until (e ∷ older) = (e.moment <ℤ until) × FallingFrom e.moment older

-- the moments strictly decrease, and lie below the highest moment
abbrev pub Falling : List Entry → Type 0
Falling = FallingFrom high

-- the rows of one table after a commit, with the commit's moment
pub record TableEntry : Type 0 where
  pub moment : ℤ
  pub rows : List Stamped

-- one table in each copy
abbrev pub table_history : ℕ → List Entry → List TableEntry
table_history t entries = map (λ (e : Entry). record { moment = e.moment; rows = rows_in e.copy t }) entries

-- ---- the row end

-- whether a bag has the row
abbrev pub has_row : List Stamped → Stamped → Bool
has_row rows r = list_any (same_stamped r) rows

-- the end of a row of the newest copy: the highest moment
abbrev pub still : Stamped → ℤ
still r = high

-- the end of a row in the copy before e: e's moment if e lacks the row, else the row's end in e
abbrev pub ends_before : TableEntry → (Stamped → ℤ) → Stamped → ℤ
ends_before e ends r = if has_row e.rows r then ends r else e.moment

-- the row as a version, with its end
abbrev pub with_end : (Stamped → ℤ) → Stamped → Version
with_end ends r = record { row = r; end = ends r }

-- rows of a copy with their ends
abbrev pub completed : (Stamped → ℤ) → List Stamped → List Version
completed ends rows = map (with_end ends) rows

-- ---- what a query finds in one table

-- the current versions: the rows of the newest copy
abbrev pub current : List TableEntry → List Version
current [] = []
current (e ∷ older) = completed still e.rows

-- the versions at moment m; the newest of these copies is valid before `until`, and `ends` gives the ends of its rows
abbrev pub as_of_from : ℤ → (Stamped → ℤ) → ℤ → List TableEntry → List Version
as_of_from until ends m [] = []
as_of_from until ends m (e ∷ older) =
    if int_le e.moment m && int_lt m until then completed ends e.rows
    else as_of_from e.moment (ends_before e ends) m older

-- the versions at a moment: the rows of the copy valid then; there are none at the highest moment
abbrev pub as_of : ℤ → List TableEntry → List Version
as_of m entries = as_of_from high still m entries

-- whether [s, e) has a point p with a ≤ p < b
abbrev pub meets : ℤ → ℤ → ℤ → ℤ → Bool
meets a b s e = (int_lt a b && int_lt s e) && (int_lt s b && int_lt a e)

-- whether some version has the row
abbrev pub has_version : List Version → Stamped → Bool
has_version vs r = list_any (λ (v : Version). same_stamped r v.row) vs

-- the versions in the copies that the range meets; each row is as frequent as in the oldest of these that has it
abbrev pub found_from : ℤ → (Stamped → ℤ) → ℤ → ℤ → List TableEntry → List Version
found_from until ends a b [] = []
found_from until ends a b (e ∷ older) =
    let earlier = found_from e.moment (ends_before e ends) a b older in
    filter (λ v. not (has_version earlier v.row))
    (if meets a b e.moment until then completed ends e.rows else []) ++ earlier

-- the versions from moment a to moment b, excluding b
abbrev pub from_to : ℤ → ℤ → List TableEntry → List Version
from_to a b entries = found_from high still a b entries

-- ---- table references

-- the versions that a table reference asks for
pub data When : Type 0 where
  Now : When
  AsOf : ℤ → When
  FromTo : ℤ → ℤ → When
  Between : ℤ → ℤ → When

-- the versions that a reference finds in a table's copies; FROM .. TO excludes its last moment, and BETWEEN .. AND
-- includes it
abbrev pub found : When → List TableEntry → List Version
found Now entries = current entries
found (AsOf m) entries = as_of m entries
found (FromTo a b) entries = from_to a b entries
found (Between a b) entries = from_to a (b +ℤ pos 1) entries

-- the rows of a table reference
abbrev pub versions : TableDef → ℕ → When → List Entry → List Row
versions d t when entries = map (full d) (found when (table_history t entries))
