-- The conjuncts of a condition.
use Rattle.std.specs.Prelude.{List, [], ◌∷◌}
use Rattle.tql_spec.specs.Expression.{Cond}
use Rattle.tql_spec.specs.Names.{Checked, ◌>>=◌, sound, factors_of}
use Rattle.tql_spec.specs.Syntax.{Conj, AllOf, Factor}

-- the members of an AND list
abbrev pub members : Conj → List Factor
members (AllOf f more) = f ∷ factors_of more

-- a condition that is one conjunct
abbrev pub as_one : Checked Cond → Checked (List Cond)
as_one c = c >>= λ d. sound (d ∷ [])
