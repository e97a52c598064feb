-- Runs of row numbers. Each run is sorted by the rows with these numbers.
use Rattle.std.specs.Prelude.{ℕ, ◌<◌, Bool, List, [], All, map, length, nat_eq, slice_index_or, Vec}
use Rattle.std.specs.List.{list_any}
use Rattle.std.specs.List.Sorted.{IsSortedBy}
use Rattle.std.specs.Ordering.{is_lt}
use Rattle.tql_spec.specs.Datum.{Row}
use Rattle.tql_spec.specs.Query.{by_columns}

-- the numbers of each run
abbrev pub numbers_in : {A : Type 0} → List (Vec ℕ A) → List (List ℕ)
numbers_in runs = map (λ r. r.items) runs

-- the row with a number
abbrev pub row_at : List Row → ℕ → Row
row_at rows n = slice_index_or rows n []

-- whether a number is in a run
abbrev pub has_number : ℕ → List ℕ → Bool
has_number n run = list_any (nat_eq n) run

-- whether a number is in one of several runs
abbrev pub is_in_runs : ℕ → List (List ℕ) → Bool
is_in_runs n runs = list_any (has_number n) runs

-- the numbers are below a bound
abbrev pub AreBelow : ℕ → List ℕ → Type 0
AreBelow bound run = All (λ n. n < bound) run

-- the rows with these numbers are in order: none is less than the row before it
abbrev pub AreInOrder : List Row → List ℕ → Type 0
AreInOrder rows run = IsSortedBy (λ a b. is_lt (by_columns (row_at rows a) (row_at rows b))) run

-- each number in a run is that of a row, and the run is sorted
abbrev pub IsRun : List Row → List ℕ → Type 0
IsRun rows run = AreBelow (length rows) run × AreInOrder rows run

abbrev pub AreRuns : List Row → List (List ℕ) → Type 0
AreRuns rows runs = All (IsRun rows) runs
