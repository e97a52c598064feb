-- Lists as bags (multisets).
use Rattle.std.specs.Prelude.{◌≡◌, ℕ, List, [], ◌∷◌, ◌⊎◌}
use Rattle.std.specs.List.{sum_by}

-- the lists are equal as multisets: under any weights, the totals agree
pub record SameBag {X : Type 0} (xs ys : List X) : Type 0 where
  pub totals : (weight : X → ℕ) → sum_by weight xs ≡ sum_by weight ys

-- x is a member of the list
abbrev pub In : {X : Type 0} → X → List X → Type 0
In x [] = ⊥
In x (y ∷ ys) = (x ≡ y) ⊎ In x ys
