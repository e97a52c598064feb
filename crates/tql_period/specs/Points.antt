-- The periods of the code, as sets of points.
use Rattle.std.specs.Prelude.{◌↔◌, List, [], ◌∷◌, ℤ, ◌≤ℤ◌, Option, Some, None, AllPairs}
use Rattle.tql_spec.specs.Period.{Period, Holds}
use Rattle.tql_period.specs.declared.period.Period as code

-- the period with the same ends
abbrev pub points_of : code.Period → Period
points_of x = record { start = x.start; end = x.end }

-- an optional piece, as a list
abbrev pub points_of_piece : Option code.Period → List Period
points_of_piece (Some x) = points_of x ∷ []
points_of_piece None = []

-- the piece contains the point
abbrev pub LiesIn : Option code.Period → ℤ → Type 0
LiesIn (Some x) p = Holds (points_of x) p
LiesIn None p = ⊥

-- the piece contains exactly the points with this property; there is no piece exactly if no point has it
abbrev pub HoldsExactly : Option code.Period → (ℤ → Type 0) → Type 0
HoldsExactly piece IsSo = (p : ℤ) → LiesIn piece p ↔ IsSo p

-- no period starts before an earlier one of the list
abbrev pub StartsRise : List code.Period → Type 0
StartsRise parts = AllPairs (λ x y. x.start ≤ℤ y.start) parts
