use Rattle.std.proofs.Common.{arith, to_z, of_z, w64, ◌≡◌, ◌∙◌, ap}
use Rattle.std.specs.Prelude.{ℤ, ◌+ℤ◌, pos}
use Rattle.std.specs.Int.{int_min}
use Rattle.std.proofs.lemmas.Int.{ints}
use Rattle.std.proofs.Math.Facts.{to_z-of_z}
use Rattle.tql_spec.specs.Calendar.{high}
use Rattle.tql_versions.specs.Readings.{meets}
use Rattle.tql_versions.proofs.readings.moments_through.Goals as goal

pub returns : goal.returns
returns c = λ x l. c.moments_between.ensures x l ∙ ap (λ a. meets a upper_end x) (to_z-of_z c.ranges.a)
    ∙ ap (λ b. meets c.args.a b x) upper
  where
    upper_end : ℤ
    upper_end = to_z w64 (of_z w64 (to_z w64 (of_z w64 c.min.result) +ℤ pos 1))

    upper : to_z w64 (of_z w64 (to_z w64 (of_z w64 c.min.result) +ℤ pos 1)) ≡ int_min c.args.b high +ℤ pos 1
    upper = let r = c.ranges.b in search (arith, ints, to_z-of_z, c.min.ensures)
