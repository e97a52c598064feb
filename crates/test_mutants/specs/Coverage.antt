-- Coverage: parts with a gap.
use Rattle.std.specs.Prelude.{◌↔◌, Bool, IsTrue, List, [], ◌∷◌, ℤ, pos}
use Rattle.tql_spec.specs.Period.{Period, Covers}

-- the clause of `covers`
abbrev pub IsCoverage : List Period → Period → Bool → Type 0
IsCoverage parts whole answer = IsTrue answer ↔ Covers parts whole

-- the period between two points
abbrev pub between : ℤ → ℤ → Period
between start end = record { start = start; end = end }

-- parts that leave out the point 3, and a whole that contains it
abbrev pub parts : List Period
parts = between (pos 1) (pos 3) ∷ between (pos 4) (pos 6) ∷ []

abbrev pub whole : Period
whole = between (pos 1) (pos 6)
