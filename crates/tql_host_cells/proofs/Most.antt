-- Counts that fit 64 bits.
use Rattle.std.proofs.Common.{◌≡◌, ℕ, ◌+◌, ◌<◌, ◌≤◌, ◌^◌, arith, Some, None, Option}
use Rattle.std.proofs.lemmas.Bool.Decides.{nat_tests}
use Rattle.std.specs.Option.{SomeIff}
use Rattle.tql_host_cells.specs.Block.{below_most}

pub most_fits : (n m : ℕ) → n ≡ m → n < 2 ^ 64 → Some n ≡ below_most m
most_fits n m is below = grind (arith, nat_tests)

pub most_exceeded : (m : ℕ) → 2 ^ 64 ≤ m → None ≡ below_most m
most_exceeded m above = grind (arith, nat_tests)

-- a sum that does not fit, and what it is a part of
pub above_sum : (a b m : ℕ) → (a + b < 2 ^ 64 → ⊥) → a + b ≤ m → 2 ^ 64 ≤ m
above_sum a b m above part = grind arith

-- what a count is that fits
pub most_known : (x m : ℕ) → Some x ≡ below_most m → x ≡ m
most_known x m is = grind (arith, nat_tests)

-- a checked sum
pub most_sum : (r : Option ℕ) (a m : ℕ) → SomeIff r (a < 2 ^ 64) a → a ≡ m → r ≡ below_most m
most_sum None a m h is = grind (arith, nat_tests)
most_sum (Some x) a m h is = let below = h.0 in let same = h.1 in grind (arith, nat_tests)
