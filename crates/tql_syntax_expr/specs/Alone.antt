-- Expressions that are one operand.
use Rattle.std.specs.Prelude.{Bool, true, false, List, [], ◌∷◌}
use Rattle.tql_spec.specs.Token.{Token, Sign, Dot, Star, PlusSign, MinusSign}
use Rattle.tql_spec.specs.Syntax.{Sum, Terms, NoTerm, Factors, NoFactor, Signed}

-- the expression that is this operand alone
abbrev pub alone : Signed → Sum
alone s = Terms (Factors s NoFactor) NoTerm

-- whether an expression does not end before this token
abbrev pub goes_on : Token → Bool
goes_on (Sign Dot) = true
goes_on (Sign Star) = true
goes_on (Sign PlusSign) = true
goes_on (Sign MinusSign) = true
goes_on _ = false

-- whether an expression does not end before the second token
abbrev pub goes_on_second : List Token → Bool
goes_on_second (_ ∷ t ∷ ts) = goes_on t
goes_on_second _ = false

-- whether an expression does not end before the third token
abbrev pub goes_on_third : List Token → Bool
goes_on_third [] = false
goes_on_third (_ ∷ ts) = goes_on_second ts
