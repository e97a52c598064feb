-- The tokens in front of a cursor.
use Rattle.std.specs.Prelude.{◌≡◌, refl, ◌≤◌, List, [], ◌∷◌, map, length, slice_index_or}
use Rattle.std.proofs.Common.{arith}
use Rattle.tql_spec.specs.Token.{Token}
use Rattle.tql_syntax_expr.specs.Alone.{goes_on, goes_on_third}

pub third_is : {X : Type 0} (f : X → Token) (xs : List X) (d : X) → 3 ≤ length xs
    → goes_on (f (slice_index_or xs 2 d)) ≡ goes_on_third (map f xs)
third_is f (a ∷ b ∷ x ∷ xs) d h = refl
third_is f [] d h = absurd (omega arith)
third_is f (a ∷ []) d h = absurd (omega arith)
third_is f (a ∷ b ∷ []) d h = absurd (omega arith)
