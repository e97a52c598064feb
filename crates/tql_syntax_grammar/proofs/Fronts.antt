-- Tokens that an expression cannot begin with.
use Rattle.std.specs.Prelude.{refl, Bool, List, codes}
use Rattle.tql_spec.specs.Token.{Token, Word, Sign, Star}
use Rattle.tql_spec.specs.Syntax.{Sum}
use Rattle.tql_spec.specs.Grammar.{expr}
use Rattle.tql_syntax_grammar.proofs.Steps.{Stops}
use Rattle.tql_syntax_grammar.proofs.FirstTokens.{starts_expr, stops_at}
use Rattle.tql_syntax_grammar.proofs.ExpressionLaws.{opens, at_expr}

-- the tokens that are not at the front of an expression
pub record BeginsExpr (ts : List Token) : Type 0 where
  pub star : Stops (Sign Star) ts
  pub null : Stops (Word (codes "NULL")) ts
  pub distinct : Stops (Word (codes "DISTINCT")) ts
  pub all : Stops (Word (codes "ALL")) ts

pub expr_front : (e : Sum) (ts rest : List Token) → expr e ts rest → BeginsExpr ts
expr_front e ts rest s =
    let test : Token → Bool = starts_expr (opens e) in
    let b = at_expr e ts rest s in
    record {
      star = stops_at test (Sign Star) ts refl b;
      null = stops_at test (Word (codes "NULL")) ts refl b;
      distinct = stops_at test (Word (codes "DISTINCT")) ts refl b;
      all = stops_at test (Word (codes "ALL")) ts refl b;
    }
