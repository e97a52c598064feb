-- Comparison of lists of kinds.
use Rattle.std.specs.Prelude.{◌≡◌, refl, ℕ, zero, suc, true, false, not, ◌==◌, List, [], ◌∷◌, length, ◌<◌}
use Rattle.std.proofs.Common.{ap, sym, arith, drop}
use Rattle.std.proofs.lemmas.Bool.Decides.{nat_tests}
use Rattle.tql_spec.specs.Datum.{Kind}
use Rattle.tql_spec.specs.Creation.{kinds_at, kinds_differ}

is_more : (n : ℕ) → (suc n == 0) ≡ false
is_more n = grind (arith, nat_tests)

-- an empty list of kinds differs from the remaining ones exactly if there are any
pub rest_differs : (kinds : List Kind) (is : List ℕ) → kinds_differ [] (kinds_at kinds is) ≡ not (length is == 0)
rest_differs kinds [] = refl
rest_differs kinds (i ∷ is) = ap not (sym (is_more (length is)))

more_left : (kinds : List Kind) (is : List ℕ) (k : ℕ) → k < length is
    → kinds_differ (kinds_at kinds (drop k is)) [] ≡ true
more_left kinds [] k h = absurd (omega (arith, h))
more_left kinds (i ∷ is) zero h = refl
more_left kinds (i ∷ is) (suc k) h = more_left kinds is k (omega (arith, h))

-- remaining kinds differ from an empty list
pub some_left : (kinds others : List Kind) (is js : List ℕ) (k : ℕ) → k < length is → length js < 1
    → kinds_differ (kinds_at kinds (drop k is)) (kinds_at others js) ≡ true
some_left kinds others is [] k h none = more_left kinds is k h
some_left kinds others is (j ∷ js) k h none = absurd (omega (arith, none))
