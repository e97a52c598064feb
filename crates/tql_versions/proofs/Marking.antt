-- The numbers of positions below a number, and from it on.
use Rattle.std.proofs.Common.{◌≡◌, ◌<◌, ℕ, suc, ◌+◌, true, false, cond, List, [], ◌∷◌, drop, get_or, length}
use Rattle.std.proofs.Common.{arith, ◌∙◌, refl}
use Rattle.std.specs.Prelude.{nat_lt, not, if◌then◌else◌}
use Rattle.std.proofs.lemmas.List.{at_drop_more}
use Rattle.tql_versions.specs.Marks.{below, from}

-- whether the next position is below the number decides which of the two lists it is in
pub below_more : (n : ℕ) (is : List ℕ) (k d : ℕ) → k < length is
    → length (below n (drop k is))
    ≡ (if nat_lt (get_or is k d) n then suc (length (below n (drop (k + 1) is)))
    else length (below n (drop (k + 1) is)))
below_more n is k d l =
    at_drop_more (λ js. length (below n js)) is k d l ∙ one (get_or is k d) (drop (k + 1) is)
  where
    one : (i : ℕ) (js : List ℕ)
        → length (below n (i ∷ js)) ≡ (if nat_lt i n then suc (length (below n js)) else length (below n js))
    one i js = elim (nat_lt i n) as (λ b. length (cond b (i ∷ below n js) (below n js))
        ≡ (if b then suc (length (below n js)) else length (below n js))) [ true ↦ refl | false ↦ refl ]

pub from_more : (n : ℕ) (is : List ℕ) (k d : ℕ) → k < length is
    → length (from n (drop k is))
    ≡ (if nat_lt (get_or is k d) n then length (from n (drop (k + 1) is)) else suc (length (from n (drop (k + 1) is))))
from_more n is k d l =
    at_drop_more (λ js. length (from n js)) is k d l ∙ one (get_or is k d) (drop (k + 1) is)
  where
    one : (i : ℕ) (js : List ℕ)
        → length (from n (i ∷ js)) ≡ (if nat_lt i n then length (from n js) else suc (length (from n js)))
    one i js = elim (nat_lt i n) as (λ b. length (cond (not b) (i ∷ from n js) (from n js))
        ≡ (if b then length (from n js) else suc (length (from n js)))) [ true ↦ refl | false ↦ refl ]

-- each position is in one of the two lists
pub marks_split : (n : ℕ) (is : List ℕ) → length (below n is) + length (from n is) ≡ length is
marks_split n [] = refl
marks_split n (i ∷ is) =
    let h = marks_split n is in
    elim (nat_lt i n) as (λ b. length (cond b (i ∷ below n is) (below n is))
    + length (cond (not b) (i ∷ from n is) (from n is)) ≡ suc (length is))
    [ true ↦ omega (arith, h) | false ↦ omega (arith, h) ]
