-- Moments later than that of the last commit.
use Rattle.std.proofs.Common.{◌≡◌, refl, Bool, true, false, Option, Some, None, arith}
use Rattle.std.specs.Prelude.{ℤ, not, IsTrue, ◌↔◌}
use Rattle.std.proofs.lemmas.Int.{ints}
use Rattle.tql_versions.specs.Changes.{Under}
use Rattle.tql_engine_state.specs.Effects.{not_later_than}

-- "not later" is the negation of "later"
pub not_later : (b : Bool) (last : Option ℤ) (m : ℤ) → (IsTrue b ↔ Under last m) → not b ≡ not_later_than m last
not_later true None m h = refl
not_later false None m h = let f : IsTrue false = h.1 tt in cc
not_later b (Some last) m h = grind (arith, ints, h)
