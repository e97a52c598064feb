-- A hash table with linear probing, which gives the numbers of rows. A slot contains a row number plus one, or zero if
-- it is empty. The digest of a row gives its first slot, and a look-up reads at most 32 slots, up to the first empty
-- one. A row number for which all of these slots were taken is in a run.
use Rattle.std.specs.Prelude.{◌≡◌, ℕ, zero, suc, ◌+◌, ◌-◌, ◌/◌, ◌^◌, Bool, true, false, List, length}
use Rattle.std.specs.Prelude.{Option, Some, None}
use Rattle.std.specs.Prelude.{◌||◌, nat_eq, slice_get, bit_and, bit_xor}
use Rattle.tql_spec.specs.Datum.{Row}
use Rattle.tql_exec_join.specs.Digest.{spread, spread_digest}
use Rattle.tql_exec_numbered.specs.Runs.{is_in_runs, AreRuns}

-- the first slot of a digest, in a table of this size: by bits of the digest, spread once more
abbrev pub first_place : ℕ → ℕ → ℕ
first_place size d = bit_and (spread (bit_xor d (d / 2 ^ 32)) / 2 ^ 32) (size - 1)

-- one step of `is_reached`: past the last slot, at an empty slot, or at a slot with a number
abbrev pub reached_at : Option ℕ → ℕ → Bool → Bool
reached_at None number rest = false
reached_at (Some zero) number rest = false
reached_at (Some (suc n)) number rest = nat_eq n number || rest

-- whether a row number is in one of n slots from an index on, before the first empty slot
abbrev pub is_reached : ℕ → List ℕ → ℕ → ℕ → Bool
is_reached zero slots at number = false
is_reached (suc more) slots at number =
    reached_at (slice_get slots at) number (is_reached more slots (at + 1) number)

-- one step of `free_from`
abbrev pub free_at : Option ℕ → ℕ → Option ℕ → Option ℕ
free_at None at rest = None
free_at (Some zero) at rest = Some at
free_at (Some (suc n)) at rest = rest

-- the first empty slot among n slots from an index on
abbrev pub free_from : ℕ → List ℕ → ℕ → Option ℕ
free_from zero slots at = None
free_from (suc more) slots at = free_at (slice_get slots at) at (free_from more slots (at + 1))

-- whether a row number is in one of the 32 slots from an index on, or in a run
abbrev pub is_kept : List ℕ → List (List ℕ) → ℕ → ℕ → Bool
is_kept slots runs at number = is_reached 32 slots at number || is_in_runs number runs

-- each row number is in one of the slots of its row, or in a run; the runs are sorted
abbrev pub AreFiled : List Row → List ℕ → List (List ℕ) → Type 0
AreFiled rows slots runs = AreRuns rows runs × ((n : ℕ) (row : Row) → slice_get rows n ≡ Some row
    → is_kept slots runs (first_place (length slots) (spread_digest row)) n ≡ true)
