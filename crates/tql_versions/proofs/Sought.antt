-- The period of the closed versions that a query selects.
use Rattle.std.proofs.Common.{◌≡◌, false, arith}
use Rattle.std.specs.Prelude.{ℤ, pos, ◌+ℤ◌, ◌&&◌, ◌<ℤ◌, int_le, int_lt}
use Rattle.std.specs.Int.{int_max, int_min}
use Rattle.std.proofs.lemmas.Int.{ints, clamps}
use Rattle.tql_spec.specs.Calendar.{high}
use Rattle.tql_spec.specs.Period.{Period, holds as held, share_a_point}
use Rattle.tql_versions.specs.Readings.{meets}

-- no closed version shares a point with the period from the highest moment on
pub none_then : (x : Period) → x.end <ℤ high → share_a_point x (record { start = high; end = high +ℤ pos 1 }) ≡ false
none_then x l = never x.start x.end l
  where
    never : (a b : ℤ) → b <ℤ high → int_lt (int_max a high) (int_min b (high +ℤ pos 1)) ≡ false
    never a b l = grind (arith, ints, clamps)

-- a period contains a point exactly when it meets the period of that point alone
pub held_alone : (t : ℤ) (x : Period) → x.start <ℤ x.end → x.end <ℤ high
    → meets t (int_min t high +ℤ pos 1) x ≡ held x t
held_alone t x r l = alone t x.start x.end r l
  where
    alone : (t a b : ℤ) → a <ℤ b → b <ℤ high
        → (int_lt t (int_min t high +ℤ pos 1) && int_lt (int_max a t) (int_min b (int_min t high +ℤ pos 1)))
        ≡ (int_le a t && int_lt t b)
    alone t a b r l = grind (arith, ints, clamps)
