-- Numbers in rising order, and distinct numbers.
use Rattle.std.specs.Prelude.{ℕ, ◌≤◌, ◌<◌, Bool, not, nat_eq, List, length, slice_index_or}
use Rattle.tql_spec.specs.Words.{all_pairs}

-- no number is lower than one before it
abbrev pub AreRising : List ℕ → Type 0
AreRising ids = (i j : ℕ) → i ≤ j → j < length ids → slice_index_or ids i 0 ≤ slice_index_or ids j 0

-- whether no two numbers are the same
abbrev pub are_distinct : List ℕ → Bool
are_distinct ids = all_pairs (λ i j. not (nat_eq i j)) ids
