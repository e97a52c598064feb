-- How the values of the code represent the reading of a token.
use Rattle.std.specs.Prelude.{◌≡◌, ℕ, ◌+◌, ◌<◌, ◌≤◌, false, List, [], length, drop, take, Option, Some, None}
use Rattle.tql_spec.specs.Script.{without_lead}
use Rattle.tql_spec.specs.FirstToken as spec
use Rattle.tql_spec.specs.FirstToken.{Reading, first_token}
use Rattle.tql_lex.specs.declared.extent.Start.{Start}
use Rattle.tql_lex.specs.declared.extent.Start.TheVariants as st
use Rattle.tql_lex.specs.declared.extent.Extent.{Extent}
use Rattle.tql_lex.specs.declared.token.Token.{Token}
use Rattle.tql_lex.specs.Tokens.{sort_of, symbol_of}

abbrev pub start_view : Start → spec.Start
start_view st.Letter = spec.LetterStart
start_view st.Digit = spec.DigitStart
start_view st.Quote = spec.QuoteStart
start_view st.Name = spec.NameStart
start_view st.Less = spec.LessStart
start_view st.More = spec.MoreStart
start_view st.Minus = spec.MinusStart
start_view (st.Single x) = spec.SymbolStart (symbol_of x)
start_view st.Nothing = spec.NoStart

abbrev pub reading_of : Option Extent → Reading
reading_of None = None
reading_of (Some e) = Some (sort_of e.kind, e.length)

-- where the next token may begin
abbrev pub IsNextStart : List ℕ → ℕ → Option ℕ → Type 0
IsNextStart text from None = without_lead false (drop from text) ≡ []
IsNextStart text from (Some start) =
    (from ≤ start) × (start < length text) × (without_lead false (drop from text) ≡ drop start text)

-- the token that starts at `start`
abbrev pub IsTokenAt : List ℕ → ℕ → Option Token → Type 0
IsTokenAt text start None = first_token (drop start text) ≡ None
IsTokenAt text start (Some t) =
    (t.start ≡ start) × (0 < length t.text.now) × (start + length t.text.now ≤ length text) ×
    (t.text.now ≡ take (length t.text.now) (drop start text))
    × (first_token (drop start text) ≡ Some (sort_of t.kind, length t.text.now))
