-- The numbers of rows of groups.
use Rattle.std.specs.Prelude.{◌≡◌, ℕ, ◌+◌, ◌-◌, ◌^◌, List, min, Some, slice_get, slice_set}

-- a number of rows, as far as 64 bits count
abbrev pub kept_count : ℕ → ℕ
kept_count n = min n (2 ^ 64 - 1)

-- the group with this number has one more row
abbrev pub CountsAt : ℕ → List ℕ → List ℕ → Type 0
CountsAt n old new =
    (count : ℕ) → slice_get old n ≡ Some count → new ≡ slice_set old n (kept_count (count + 1))
