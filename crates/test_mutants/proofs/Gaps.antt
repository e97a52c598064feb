-- No part contains the point between two parts.
use Rattle.std.specs.Prelude.{refl, zero, suc, false, pos, true, Contains}
use Rattle.std.proofs.Common.{arith, subst, sym}
use Rattle.std.proofs.lemmas.Int.{ints}
use Rattle.tql_spec.specs.Period.{Covers, Period, Holds}
use Rattle.test_mutants.specs.Coverage.{IsCoverage, between, parts, whole}

not_at_three : (part : Period) → Contains parts part → Holds part (pos 3) → ⊥
not_at_three part (zero, l, e) h =
    let k : Holds (between (pos 1) (pos 3)) (pos 3) = subst (λ y. Holds y (pos 3)) (sym e) h in
    omega (arith, ints, k.1)
not_at_three part (suc zero, l, e) h =
    let k : Holds (between (pos 4) (pos 6)) (pos 3) = subst (λ y. Holds y (pos 3)) (sym e) h in
    omega (arith, ints, k.0)
not_at_three part (suc (suc n), l, e) h = omega (arith, l)

not_covered : Covers parts whole → ⊥
not_covered covers =
    let held = covers (pos 3) (omega (arith, ints), omega (arith, ints)) in not_at_three held.0 held.1 held.2

pub false_is_right : IsCoverage parts whole false
false_is_right = (λ e. absurd (cc), λ covers. absurd (not_covered covers))

pub true_is_wrong : IsCoverage parts whole true → ⊥
true_is_wrong clause = not_covered (clause.0 refl)
