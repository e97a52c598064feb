-- Tests on a token, and its content.
use Rattle.std.specs.Prelude.{ℕ, Bool, true, false, List}
use Rattle.tql_spec.specs.Words.{same_text}
use Rattle.tql_spec.specs.Token.{Symbol, Open, Close, Comma, Dot, PlusSign, MinusSign, Star, EqualSign, UnequalSign}
use Rattle.tql_spec.specs.Token.{LessSign, AtMostSign, MoreSign, AtLeastSign, symbol_text, Token, Word, QuotedName}
use Rattle.tql_spec.specs.Token.{Number, Quote, Sign, is_reserved}

-- whether two symbols are the same
abbrev pub same_symbol : Symbol → Symbol → Bool
same_symbol Open Open = true
same_symbol Close Close = true
same_symbol Comma Comma = true
same_symbol Dot Dot = true
same_symbol PlusSign PlusSign = true
same_symbol MinusSign MinusSign = true
same_symbol Star Star = true
same_symbol EqualSign EqualSign = true
same_symbol UnequalSign UnequalSign = true
same_symbol LessSign LessSign = true
same_symbol AtMostSign AtMostSign = true
same_symbol MoreSign MoreSign = true
same_symbol AtLeastSign AtLeastSign = true
same_symbol _ _ = false

-- whether the token is this symbol
abbrev pub is_sign : Symbol → Token → Bool
is_sign s (Sign x) = same_symbol x s
is_sign s _ = false

-- whether the token is this word
abbrev pub is_word : List ℕ → Token → Bool
is_word w (Word v) = same_text v w
is_word w _ = false

-- whether the token is a reserved word, which is never a name
abbrev pub is_reserved_word : Token → Bool
is_reserved_word (Word w) = is_reserved w
is_reserved_word _ = false

-- the content: a word in upper case, a name or a text without its quotes, the digits of a number, a symbol
abbrev pub content_of : Token → List ℕ
content_of (Word w) = w
content_of (QuotedName n) = n
content_of (Number ds) = ds
content_of (Quote t) = t
content_of (Sign s) = symbol_text s
