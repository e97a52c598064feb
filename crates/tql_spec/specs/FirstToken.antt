-- The first token of a text, read from its first byte on.
use Rattle.std.specs.Prelude.{ℕ, suc, Bool, true, false, ◌==◌, List, [], ◌∷◌, map, drop, Option, Some, None}
use Rattle.std.specs.Prelude.{if◌then◌else◌}
use Rattle.std.specs.List.{prefix_len}
use Rattle.tql_spec.specs.Calendar.{is_digit}
use Rattle.tql_spec.specs.Token.{Symbol, Open, Close, Comma, Dot, PlusSign, MinusSign, Star, EqualSign, UnequalSign}
use Rattle.tql_spec.specs.Token.{LessSign, AtMostSign, MoreSign, AtLeastSign, Token, Word, QuotedName, Number, Quote}
use Rattle.tql_spec.specs.Token.{Sign, is_letter, is_word_byte, upper}

-- a token without its text
pub data Sort : Type 0 where
  WordSort : Sort
  NameSort : Sort
  NumberSort : Sort
  QuoteSort : Sort
  SignSort : Symbol → Sort

-- the content after an opening quote, each doubled quote once; the flag says that the last byte was a quote
abbrev pub content_from : ℕ → Bool → List ℕ → List ℕ
content_from q again [] = []
content_from q false (b ∷ bs) = if b == q then content_from q true bs else b ∷ content_from q false bs
content_from q true (b ∷ bs) = b ∷ content_from q false bs

-- the bytes without a quote at the front
abbrev pub without_quote : ℕ → List ℕ → List ℕ
without_quote q [] = []
without_quote q (b ∷ bs) = if b == q then bs else b ∷ bs

-- the content of a quoted text
abbrev pub content : ℕ → List ℕ → List ℕ
content q text = content_from q false (without_quote q text)

-- the token of this sort with this text
abbrev pub token_with : Sort → List ℕ → Token
token_with WordSort text = Word (map upper text)
token_with NameSort text = QuotedName (content 34 text)
token_with NumberSort text = Number text
token_with QuoteSort text = Quote (content 39 text)
token_with (SignSort s) text = Sign s

-- the sort of a first byte
pub data Start : Type 0 where
  LetterStart : Start
  DigitStart : Start
  QuoteStart : Start
  NameStart : Start
  LessStart : Start
  MoreStart : Start
  MinusStart : Start
  SymbolStart : Symbol → Start
  NoStart : Start

-- the start of a symbol of one byte that begins no longer symbol
abbrev pub symbol_start : ℕ → Start
symbol_start b =
    if b == 40 then SymbolStart Open else (if b == 41 then SymbolStart Close else (if b == 44 then SymbolStart Comma
    else (if b == 46 then SymbolStart Dot else
    (if b == 43 then SymbolStart PlusSign else (if b == 42 then SymbolStart Star
    else (if b == 61 then SymbolStart EqualSign else NoStart))))))

abbrev pub start_of : ℕ → Start
start_of b =
    if is_letter b then LetterStart else
    (if is_digit b then DigitStart else (if b == 39 then QuoteStart else (if b == 34 then NameStart
    else (if b == 60 then LessStart else
    (if b == 62 then MoreStart else (if b == 45 then MinusStart else symbol_start b))))))

-- the sort of the first token and its number of bytes, if there is one
abbrev pub Reading : Type 0
Reading = Option (Sort × ℕ)

-- whether there is a first byte that passes the test
abbrev pub begins : (ℕ → Bool) → List ℕ → Bool
begins p [] = false
begins p (b ∷ bs) = p b

abbrev pub one_more : Option ℕ → Option ℕ
one_more None = None
one_more (Some n) = Some (suc n)

-- the number of bytes after an opening quote, up to and including the closing one; the flag as for `content_from`
abbrev pub quote_end : ℕ → Bool → List ℕ → Option ℕ
quote_end q false [] = None
quote_end q true [] = Some 0
quote_end q false (b ∷ bs) = one_more (quote_end q (b == q) bs)
quote_end q true (b ∷ bs) = if b == q then one_more (quote_end q false bs) else Some 0

abbrev pub read_number : ℕ → List ℕ → Reading
read_number n bs = if begins is_letter (drop n bs) then None else Some (NumberSort, suc n)

abbrev pub read_quote : Option ℕ → Reading
read_quote None = None
read_quote (Some n) = Some (QuoteSort, suc n)

abbrev pub read_name : Option ℕ → Reading
read_name None = None
read_name (Some n) = if n == 1 then None else Some (NameSort, suc n)

abbrev pub read_less : List ℕ → Reading
read_less bs =
    if begins (λ b. b == 61) bs then Some (SignSort AtMostSign, 2)
    else (if begins (λ b. b == 62) bs then Some (SignSort UnequalSign, 2) else Some (SignSort LessSign, 1))

abbrev pub read_more : List ℕ → Reading
read_more bs = if begins (λ b. b == 61) bs then Some (SignSort AtLeastSign, 2) else Some (SignSort MoreSign, 1)

abbrev pub read_minus : List ℕ → Reading
read_minus bs = if begins (λ b. b == 45) bs then None else Some (SignSort MinusSign, 1)

-- the first token, from the sort of its first byte and the bytes after it
abbrev pub read_from : Start → List ℕ → Reading
read_from LetterStart bs = Some (WordSort, suc (prefix_len is_word_byte bs))
read_from DigitStart bs = read_number (prefix_len is_digit bs) bs
read_from QuoteStart bs = read_quote (quote_end 39 false bs)
read_from NameStart bs = read_name (quote_end 34 false bs)
read_from LessStart bs = read_less bs
read_from MoreStart bs = read_more bs
read_from MinusStart bs = read_minus bs
read_from (SymbolStart s) bs = Some (SignSort s, 1)
read_from NoStart bs = None

-- the first token, if the bytes begin with one
abbrev pub first_token : List ℕ → Reading
first_token [] = None
first_token (b ∷ bs) = read_from (start_of b) bs
