-- Points of time as machine numbers: nothing wraps.
use Rattle.std.proofs.Common.{◌≡◌, ℕ, ℤ, pos, ◌+ℤ◌, ◌-ℤ◌, to_z, of_z, to_z-of_z, FitsSigned, w64, Some, Result, Ok, Err}
use Rattle.std.proofs.Math.IntN as IntN
use Rattle.std.specs.Int.{Width}
use Rattle.std.specs.Result.{result_ok, OkIff}

-- the sum of machine numbers is exact if it fits
pub sum_of_bits : (z k : ℤ) → FitsSigned w64 z → FitsSigned w64 (z +ℤ k)
    → to_z w64 (of_z w64 (to_z w64 (of_z w64 z) +ℤ k)) ≡ z +ℤ k
sum_of_bits z k f g = rw (to_z-of_z f) (to_z-of_z g)

-- a difference, with the subtracted number added again
pub sum_of_difference : (z : ℤ) (n s : ℕ) → z ≡ pos n -ℤ pos s → z +ℤ pos s ≡ pos n
sum_of_difference z n s e = rw e (IntN.-ℤ-+ℤ_cancel (pos n) (pos s))

-- a successful conversion returns the number itself
pub bits_of_conversion : {E : Type 0} (w : Width) (r : Result ℤ E) (z v : ℤ) → OkIff r (FitsSigned w v) v
    → Some z ≡ result_ok r → to_z w (of_z w z) ≡ v
bits_of_conversion w (Ok x) z v h e = let same : z ≡ x = cc in rw (same, h.1) (to_z-of_z h.0)
bits_of_conversion w (Err x) z v h e = cc
