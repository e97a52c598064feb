-- What the tokens of the code represent.
use Rattle.std.specs.Prelude.{◌≡◌, ℕ, ◌+◌, ◌≤◌, List, [], ◌∷◌, length, slice_range}
use Rattle.tql_spec.specs.Token as token
use Rattle.tql_spec.specs.FirstToken.{Sort, WordSort, NameSort, NumberSort, QuoteSort, SignSort, token_with}
use Rattle.tql_lex.specs.declared.token.Symbol.{Symbol}
use Rattle.tql_lex.specs.declared.token.Symbol.TheVariants as s
use Rattle.tql_lex.specs.declared.token.TokenKind.{TokenKind}
use Rattle.tql_lex.specs.declared.token.TokenKind.TheVariants as k
use Rattle.tql_lex.specs.declared.token.Token.{Token}

abbrev pub symbol_of : Symbol → token.Symbol
symbol_of s.Open = token.Open
symbol_of s.Close = token.Close
symbol_of s.Comma = token.Comma
symbol_of s.Dot = token.Dot
symbol_of s.PlusSign = token.PlusSign
symbol_of s.MinusSign = token.MinusSign
symbol_of s.Star = token.Star
symbol_of s.EqualSign = token.EqualSign
symbol_of s.UnequalSign = token.UnequalSign
symbol_of s.LessSign = token.LessSign
symbol_of s.AtMostSign = token.AtMostSign
symbol_of s.MoreSign = token.MoreSign
symbol_of s.AtLeastSign = token.AtLeastSign

abbrev pub sort_of : TokenKind → Sort
sort_of k.Word = WordSort
sort_of k.QuotedName = NameSort
sort_of k.Number = NumberSort
sort_of k.Quote = QuoteSort
sort_of (k.Sign x) = SignSort (symbol_of x)

-- the token with this sort and spelling
abbrev pub token_of : Token → token.Token
token_of t = token_with (sort_of t.kind) t.text.now

-- each token's text is in `text` at its offset; the tokens do not overlap, and none starts before `from`
abbrev pub AreInPlace : ℕ → List Token → List ℕ → Type 0
AreInPlace from [] text = Unit {0}
AreInPlace from (t ∷ ts) text =
    let end = t.start + length t.text.now in
    (from ≤ t.start) × (end ≤ length text) × (t.text.now ≡ slice_range text t.start end) × AreInPlace end ts text
