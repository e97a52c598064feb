-- Conditions on the tokens after a phrase, under which reading the phrase stops there.
use Rattle.std.specs.Prelude.{◌≡◌, false, List, codes}
use Rattle.tql_spec.specs.Token.{Token, Word, Sign, Dot, Star, PlusSign, MinusSign}
use Rattle.tql_syntax_grammar.specs.Outcome.{eat}

-- the condition on the tokens after an expression
pub record EndsExpr (rest : List Token) : Type 0 where
  pub dot : (eat (Sign Dot) rest).0 ≡ false
  pub star : (eat (Sign Star) rest).0 ≡ false
  pub plus : (eat (Sign PlusSign) rest).0 ≡ false
  pub minus : (eat (Sign MinusSign) rest).0 ≡ false

-- the condition on the tokens after a condition
pub record EndsCondition (rest : List Token) : Type 0 where
  pub expr : EndsExpr rest
  pub also : (eat (Word (codes "AND")) rest).0 ≡ false
  pub or : (eat (Word (codes "OR")) rest).0 ≡ false
