-- The tokens of a text.
use Rattle.std.specs.Prelude.{◌≡◌, ◌⊎◌, ℕ, suc, pred, ◌-◌, max, Bool, false, not, ◌&&◌, ◌||◌, ◌==◌, nat_le, IsTrue}
use Rattle.std.specs.Prelude.{IsFalse, List, [], ◌∷◌, ◌++◌, map, codes, if◌then◌else◌, ⊤}
use Rattle.std.specs.List.{list_all, list_any}
use Rattle.tql_spec.specs.Words.{same_text}
use Rattle.tql_spec.specs.Calendar.{is_digit}
use Rattle.tql_spec.specs.Script.{is_blank}
use Rattle.tql_spec.specs.Text.{doubled}

-- the symbols
pub data Symbol : Type 0 where
  Open : Symbol
  Close : Symbol
  Comma : Symbol
  Dot : Symbol
  PlusSign : Symbol
  MinusSign : Symbol
  Star : Symbol
  EqualSign : Symbol
  UnequalSign : Symbol
  LessSign : Symbol
  AtMostSign : Symbol
  MoreSign : Symbol
  AtLeastSign : Symbol

-- a word in upper case, a quoted name as written, a number by its digits, the characters of a text, a symbol
pub data Token : Type 0 where
  Word : List ℕ → Token
  QuotedName : List ℕ → Token
  Number : List ℕ → Token
  Quote : List ℕ → Token
  Sign : Symbol → Token

-- how a symbol is written
abbrev pub symbol_text : Symbol → List ℕ
symbol_text Open = codes "("
symbol_text Close = codes ")"
symbol_text Comma = codes ","
symbol_text Dot = codes "."
symbol_text PlusSign = codes "+"
symbol_text MinusSign = codes "-"
symbol_text Star = codes "*"
symbol_text EqualSign = codes "="
symbol_text UnequalSign = codes "<>"
symbol_text LessSign = codes "<"
symbol_text AtMostSign = codes "<="
symbol_text MoreSign = codes ">"
symbol_text AtLeastSign = codes ">="

-- whether a byte is an ASCII letter or `_`
abbrev pub is_letter : ℕ → Bool
is_letter b = (nat_le 65 b && nat_le b 90) || (nat_le 97 b && nat_le b 122) || (b == 95)

-- whether a byte is a letter, `_` or a digit
abbrev pub is_word_byte : ℕ → Bool
is_word_byte b = is_letter b || is_digit b

-- a letter in upper case, any other byte as it is
abbrev pub upper : ℕ → ℕ
upper b = if nat_le 97 b && nat_le b 122 then b - 32 else b

-- whether the bytes are a letter or `_`, followed by letters, digits and `_`
abbrev pub is_word : List ℕ → Bool
is_word [] = false
is_word (b ∷ bs) = is_letter b && list_all is_word_byte bs

-- whether the bytes are one or more digits
abbrev pub is_number : List ℕ → Bool
is_number [] = false
is_number (b ∷ bs) = list_all is_digit (b ∷ bs)

-- the bytes spell the token
abbrev pub Spells : Token → List ℕ → Type 0
Spells (Word w) bytes = IsTrue (is_word bytes) × (w ≡ map upper bytes)
Spells (QuotedName n) bytes = (n ≡ [] → ⊥) × (bytes ≡ 34 ∷ doubled 34 n ++ 34 ∷ [])
Spells (Number ds) bytes = IsTrue (is_number bytes) × (ds ≡ bytes)
Spells (Quote t) bytes = bytes ≡ 39 ∷ doubled 39 t ++ 39 ∷ []
Spells (Sign s) bytes = bytes ≡ symbol_text s

-- whether the next byte would lengthen a token, or make a number or a minus sign invalid
abbrev pub lengthens : Token → ℕ → Bool
lengthens (Word w) b = is_word_byte b
lengthens (QuotedName n) b = b == 34
lengthens (Number ds) b = is_word_byte b
lengthens (Quote t) b = b == 39
lengthens (Sign LessSign) b = (b == 61) || (b == 62)
lengthens (Sign MoreSign) b = b == 61
lengthens (Sign MinusSign) b = b == 45
lengthens (Sign _) b = false

-- the token is as long as it can be
abbrev pub IsLongest : Token → List ℕ → Type 0
IsLongest t [] = ⊤
IsLongest t (b ∷ bs) = IsFalse (lengthens t b)

-- the bytes have no line feed
abbrev pub IsOneLine : List ℕ → Type 0
IsOneLine bs = IsTrue (list_all (λ b. not (b == 10)) bs)

-- blanks and comments, each comment with its line feed
pub data IsGap : List ℕ → Type 0 where
  nothing : IsGap []
  blank : {b : ℕ} {bs : List ℕ} → IsTrue (is_blank b) → IsGap bs → IsGap (b ∷ bs)
  comment : (words : List ℕ) {bs gap : List ℕ} → IsOneLine words → IsGap bs → gap ≡ 45 ∷ 45 ∷ words ++ 10 ∷ bs
      → IsGap gap

-- blanks and comments up to the end; the last comment may lack its line feed
abbrev pub IsEnd : List ℕ → Type 0
IsEnd bytes = IsGap bytes ⊎ ((gap words : List ℕ) × IsGap gap × IsOneLine words × (bytes ≡ gap ++ 45 ∷ 45 ∷ words))

-- the bytes are these tokens, separated by blanks and comments; each token is as long as it can be
abbrev pub AreTokens : List Token → List ℕ → Type 0
AreTokens [] bytes = IsEnd bytes
AreTokens (t ∷ ts) bytes =
    (gap text rest : List ℕ) ×
    (bytes ≡ gap ++ text ++ rest) × IsGap gap × Spells t text × IsLongest t rest × AreTokens ts rest

-- the most parentheses open at once, if n are open at the start
abbrev pub depth_from : ℕ → List Token → ℕ
depth_from n [] = n
depth_from n (Sign Open ∷ ts) = max n (depth_from (suc n) ts)
depth_from n (Sign Close ∷ ts) = max n (depth_from (pred n) ts)
depth_from n (t ∷ ts) = depth_from n ts

-- the most parentheses that are open at once
abbrev pub depth : List Token → ℕ
depth = depth_from 0

-- the reserved words, which are never names
abbrev pub reserved : List (List ℕ)
reserved =
    codes "ALL" ∷ codes "AND" ∷ codes "AS" ∷ codes "BETWEEN" ∷ codes "BIGINT" ∷ codes "BY" ∷ codes "CHECK" ∷ codes
    "CONSTRAINT"
    ∷ codes "CONTAINS" ∷ codes "COUNT" ∷ codes "CREATE" ∷ codes "CROSS" ∷ codes "DATE" ∷ codes "DELETE" ∷ codes
    "DISTINCT"
    ∷ codes "DROP" ∷ codes "EQUALS" ∷ codes "FOR" ∷ codes "FOREIGN" ∷ codes "FROM" ∷ codes "FULL" ∷ codes "GROUP"
    ∷ codes "HAVING" ∷ codes "IMMEDIATELY" ∷ codes "IN" ∷ codes "INNER" ∷ codes "INSERT" ∷ codes "INT" ∷ codes "INTEGER"
    ∷ codes "INTO" ∷ codes "IS" ∷ codes "JOIN" ∷ codes "LEFT" ∷ codes "MAX" ∷ codes "MIN" ∷ codes "NOT" ∷ codes "NULL"
    ∷ codes "ON" ∷ codes "OR" ∷ codes "ORDER" ∷ codes "OUTER" ∷ codes "OVERLAPS" ∷ codes "PERIOD" ∷ codes "PORTION"
    ∷ codes "PRECEDES" ∷ codes "PRIMARY" ∷ codes "REFERENCES" ∷ codes "RIGHT" ∷ codes "SELECT" ∷ codes "SET"
    ∷ codes "SUCCEEDS" ∷ codes "SUM" ∷ codes "SYSTEM_TIME" ∷ codes "TABLE" ∷ codes "TIMESTAMP" ∷ codes "TO" ∷ codes
    "UNIQUE"
    ∷ codes "UPDATE" ∷ codes "VALUES" ∷ codes "VARCHAR" ∷ codes "WHERE" ∷ codes "WITH" ∷ []

-- whether a word is reserved
abbrev pub is_reserved : List ℕ → Bool
is_reserved w = list_any (same_text w) reserved

-- the law: a text has at most one list of tokens
abbrev pub HasOneTokenList : Type 0
HasOneTokenList = (text : List ℕ) (ts us : List Token) → AreTokens ts text → AreTokens us text → ts ≡ us
