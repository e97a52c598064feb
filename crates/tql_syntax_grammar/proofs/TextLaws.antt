-- A text has one token list, so it spells at most one statement.
use Rattle.std.proofs.Common.{◌≡◌, sym, subst, ℕ, ◌<◌, ◌≤◌, List, arith}
use Rattle.tql_spec.specs.Token.{Token, AreTokens, depth}
use Rattle.tql_spec.specs.Grammar.{IsStatement}
use Rattle.tql_spec.specs.Run.{IsDeep}
use Rattle.tql_spec.proofs.TokenLaws.{one_list}
use Rattle.tql_syntax_grammar.specs.Texts.{HasOneStatement}
use Rattle.tql_syntax_grammar.proofs.StatementLaws.{spells_once}

-- a text whose tokens open no more than 64 parentheses at once is not nested too deep
pub not_deep : (text : List ℕ) (ts : List Token) → AreTokens ts text → depth ts ≤ 64 → IsDeep text → ⊥
not_deep text ts are shallow (us, are_too, deep) =
    let same : ts ≡ us = one_list text ts us are are_too in
    let deeper : 64 < depth ts = subst (λ vs. 64 < depth vs) (sym same) deep in
    omega (arith, shallow, deeper)

pub one_statement : HasOneStatement
one_statement text s (ts, tokens, spelled) = record {
  shallow = not_deep text ts tokens.0 tokens.1;
  alone = λ t (us, others, spelled_too).
      let same : ts ≡ us = one_list text ts us tokens.0 others.0 in
      spells_once ts t s (subst (λ vs. IsStatement t vs) (sym same) spelled_too) spelled;
}
