-- The first token of a phrase, and which tokens it cannot be.
use Rattle.std.specs.Prelude.{◌≡◌, refl, Bool, true, false, not, ◌||◌, List, [], ◌∷◌, codes}
use Rattle.std.specs.List.{list_any}
use Rattle.std.proofs.Common.{inl, inr}
use Rattle.tql_spec.specs.Words.{same_text}
use Rattle.tql_spec.specs.Definition.{Name}
use Rattle.tql_spec.specs.Token.{Token, Word, QuotedName, Sign, Open, Dot, PlusSign, MinusSign, Star, is_reserved}
use Rattle.tql_spec.specs.Grammar.{name}
use Rattle.tql_syntax_grammar.specs.Outcome.{is_token, eat, is_name}
use Rattle.tql_syntax_grammar.proofs.Ends.{EndsExpr}
use Rattle.tql_syntax_grammar.proofs.Steps.{is_token_true, eat_false, Stops}

-- the first token passes the test
pub record Begins (test : Token → Bool) (ts : List Token) : Type 0 where
  pub first : Token
  pub others : List Token
  pub is : ts ≡ first ∷ others
  pub passes : test first ≡ true

not_true : (b : Bool) → (b ≡ true → ⊥) → b ≡ false
not_true true f = absurd (f refl)
not_true false f = refl

differs : (test : Token → Bool) (t u : Token) → test t ≡ false → test u ≡ true → is_token t u ≡ false
differs test t u fails holds = not_true (is_token t u) (λ same. let e = is_token_true t u same in absurd cc)

-- a token that fails the test is not in front
pub stops_at : (test : Token → Bool) (t : Token) (ts : List Token) → test t ≡ false → Begins test ts → Stops t ts
stops_at test t ts fails b = rw (b.is, differs test t b.first fails b.passes) refl

-- a token that is not in front is not consumed
pub eat_not : (t : Token) (ts : List Token) → Stops t ts → eat t ts ≡ (false, ts)
eat_not t ts stops = pair_is (eat t ts) ts stops (eat_false t ts stops)
  where
    pair_is : (p : Bool × List Token) (us : List Token) → p.0 ≡ false → p.1 ≡ us → p ≡ (false, us)
    pair_is p us a b = rw (← a, ← b) refl

-- a token that fails the test is not consumed
pub eat_none : (test : Token → Bool) (t : Token) (ts : List Token) → test t ≡ false → Begins test ts
    → eat t ts ≡ (false, ts)
eat_none test t ts fails b = eat_not t ts (stops_at test t ts fails b)

-- a token that passes the test is in front
pub at_token : (test : Token → Bool) (u : Token) (ts rest : List Token) → test u ≡ true → ts ≡ u ∷ rest → Begins test ts
at_token test u ts rest passes is = record { first = u; others = rest; is = is; passes = passes }

-- ---- names

pub at_name : (n : Name) (ts rest : List Token) → name n ts rest → Begins is_name ts
at_name n ts rest s =
    elim s [
      | inl w ↦ at_token is_name (Word n) ts rest (rw w.1 refl) w.0
      | inr q ↦ at_token is_name (QuotedName n) ts rest refl q
    ]

-- ---- expressions

-- the reserved words that begin a literal or an aggregate
abbrev first_words : List Name
first_words = codes "DATE" ∷ codes "TIMESTAMP" ∷ codes "COUNT" ∷ codes "SUM" ∷ codes "MIN" ∷ codes "MAX" ∷ []

-- whether a token can begin a primary; the flag says whether `(` can
abbrev pub starts_primary : Bool → Token → Bool
starts_primary opens (Word w) = not (is_reserved w) || list_any (same_text w) first_words
starts_primary opens (Sign Open) = opens
starts_primary opens (Sign _) = false
starts_primary opens _ = true

-- whether a token can begin an expression; the flag says whether `(` can
abbrev pub starts_expr : Bool → Token → Bool
starts_expr opens (Sign PlusSign) = true
starts_expr opens (Sign MinusSign) = true
starts_expr opens u = starts_primary opens u

name_starts : (opens : Bool) (u : Token) → is_name u ≡ true → starts_primary opens u ≡ true
name_starts opens (Word w) e = rw e refl
name_starts opens (QuotedName n) e = refl
name_starts opens _ e = absurd cc

pub name_begins_primary : (opens : Bool) (ts : List Token) → Begins is_name ts → Begins (starts_primary opens) ts
name_begins_primary opens ts b = record {
  first = b.first;
  others = b.others;
  is = b.is;
  passes = name_starts opens b.first b.passes;
}

primary_starts : (opens : Bool) (u : Token) → starts_primary opens u ≡ true → starts_expr opens u ≡ true
primary_starts opens (Sign PlusSign) e = refl
primary_starts opens (Sign MinusSign) e = refl
primary_starts opens _ e = e

pub primary_begins_expr : (opens : Bool) (ts : List Token) → Begins (starts_primary opens) ts
    → Begins (starts_expr opens) ts
primary_begins_expr opens ts b = record {
  first = b.first;
  others = b.others;
  is = b.is;
  passes = primary_starts opens b.first b.passes;
}

-- whether a token ends an expression before it
abbrev pub ends_expr : Token → Bool
ends_expr (Sign Dot) = false
ends_expr (Sign Star) = false
ends_expr (Sign PlusSign) = false
ends_expr (Sign MinusSign) = false
ends_expr _ = true

pub ends_at : (ts : List Token) → Begins ends_expr ts → EndsExpr ts
ends_at ts b = record {
  dot = stops_at ends_expr (Sign Dot) ts refl b;
  star = stops_at ends_expr (Sign Star) ts refl b;
  plus = stops_at ends_expr (Sign PlusSign) ts refl b;
  minus = stops_at ends_expr (Sign MinusSign) ts refl b;
}

-- an expression ends before this token
pub ends_before : (u : Token) (ts rest : List Token) → ends_expr u ≡ true → ts ≡ u ∷ rest → EndsExpr ts
ends_before u ts rest ends is = ends_at ts (at_token ends_expr u ts rest ends is)
