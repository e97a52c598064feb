-- The parts of expressions and conditions after a first part, built from lists.
use Rattle.std.specs.Prelude.{Bool, if◌then◌else◌, List, [], ◌∷◌}
use Rattle.tql_spec.specs.Syntax.{Product, MoreTerms, NoTerm, PlusTerm, MinusTerm, MoreFactors, NoFactor, TimesFactor}
use Rattle.tql_spec.specs.Syntax.{Signed, MoreConjs, NoConj, OrConj, Conj, MoreTests, NoTest, AndTest, Factor}

-- a term after the first, and whether it is subtracted
pub record AddedTerm : Type 0 where
  pub is_minus : Bool
  pub term : Product

abbrev pub with_term : AddedTerm → MoreTerms → MoreTerms
with_term t more = if t.is_minus then MinusTerm t.term more else PlusTerm t.term more

-- the terms after the first
abbrev pub terms_of : List AddedTerm → MoreTerms
terms_of [] = NoTerm
terms_of (t ∷ ts) = with_term t (terms_of ts)

-- the factors after the first
abbrev pub factors_of : List Signed → MoreFactors
factors_of [] = NoFactor
factors_of (s ∷ ss) = TimesFactor s (factors_of ss)

-- the parts after the first AND
abbrev pub tests_of : List Factor → MoreTests
tests_of [] = NoTest
tests_of (f ∷ fs) = AndTest f (tests_of fs)

-- the parts after the first OR
abbrev pub conjs_of : List Conj → MoreConjs
conjs_of [] = NoConj
conjs_of (c ∷ cs) = OrConj c (conjs_of cs)
