-- Keys: new rows, and rows of which some are removed.
use Rattle.std.specs.Prelude.{◌≡◌, Bool, true, false, List, [], ◌∷◌, ℤ, pos, Some, None}
use Rattle.std.specs.Ordering.{int_eq}
use Rattle.tql_spec.specs.Constraint.{shown_rows}
use Rattle.tql_spec.specs.Datum.{Row, Int, Day, Ints, Days, Kind}
use Rattle.tql_spec.specs.Definition.{Column, Key, Stamped, TableDef, period_of, shown}
use Rattle.tql_key_clashes.specs.Free.{is_free}
use Rattle.tql_key_clashes.specs.Named.{staying}

-- the clause of `is_free`, about a new row of a table with these rows, of which some are removed
abbrev pub IsFreeBy : TableDef → Key → (Stamped → Bool) → List Stamped → Row → Bool → Type 0
IsFreeBy d k gone rows row answer = answer ≡ is_free d k (shown_rows d (staying gone rows)) row

-- a column that is NOT NULL
abbrev pub column : Kind → Column
column kind = record { name = []; kind = kind; limit = None; required = true }

-- a table of numbers with an application period
abbrev pub table : TableDef
table = record {
  name = [];
  columns = column Ints ∷ column Days ∷ column Days ∷ [];
  system = None;
  application = Some (record { name = []; start = 1; end = 2 });
  keys = [];
  references = [];
  checks = [];
}

-- its key on the number, WITHOUT OVERLAPS or plain
abbrev pub key : Bool → Key
key by_period = record { columns = 0 ∷ []; by_period = by_period }

-- a row of the table, and the row as it is stored
abbrev pub row : ℤ → ℤ → ℤ → Row
row number start end = Int number ∷ Day start ∷ Day end ∷ []

abbrev pub stored : ℤ → ℤ → ℤ → Stamped
stored number start end = record { cells = row number start end; start = pos 0 }

-- number 1 in two periods, of which the first is removed; a new row shares a point with both
abbrev pub neighbours : List Stamped
neighbours = stored (pos 1) (pos 1) (pos 4) ∷ stored (pos 1) (pos 6) (pos 9) ∷ []

abbrev pub is_first : Stamped → Bool
is_first r = int_eq (period_of table (shown table r)).start (pos 1)

abbrev pub between_both : Row
between_both = row (pos 1) (pos 3) (pos 8)

abbrev pub NeighboursAnswer : Bool → Type 0
NeighboursAnswer answer = IsFreeBy table (key true) is_first neighbours between_both answer

-- numbers 1 and 2, both removed, and a new row with number 2
abbrev pub numbers : List Stamped
numbers = stored (pos 1) (pos 1) (pos 4) ∷ stored (pos 2) (pos 1) (pos 4) ∷ []

abbrev pub RemovedAnswer : Bool → Type 0
RemovedAnswer answer = IsFreeBy table (key false) (λ r. true) numbers (row (pos 2) (pos 1) (pos 4)) answer
