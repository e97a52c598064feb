-- The outcome of reading from the front of a token list, and the small steps that every rule is built from.
use Rattle.std.specs.Prelude.{ℕ, zero, suc, Bool, true, false, not, if◌then◌else◌, List, [], ◌∷◌, ◌++◌, length}
use Rattle.std.specs.Prelude.{Option, Some, None}
use Rattle.tql_spec.specs.Words.{same_text}
use Rattle.tql_spec.specs.Definition.{Name}
use Rattle.tql_spec.specs.Token.{Token, Word, QuotedName, Number, Quote, Sign, Symbol, Comma, is_reserved}
use Rattle.tql_lex.specs.Tests.{is_word, is_sign}

-- the outcome of a rule: failure, or the value that it read and the tokens after it
pub data Outcome (A : Type 0) : Type 0 where
  Failed : Outcome A
  Read : A → List Token → Outcome A

abbrev pub Parser : Type 0 → Type 0
Parser A = List Token → Outcome A

-- continues with a second rule after the tokens that were read
infixl 10 ◌>>=◌
abbrev pub ◌>>=◌ : {A B : Type 0} → Outcome A → (A → Parser B) → Outcome B
Failed >>= f = Failed
(Read x ts) >>= f = f x ts

-- consumes no token, and returns this value
abbrev pub found : {A : Type 0} → A → Parser A
found x ts = Read x ts

-- maps the value that was read
abbrev pub into : {A B : Type 0} → (A → B) → Outcome A → Outcome B
into make o = o >>= λ x rest. Read (make x) rest

-- ---- single tokens

-- whether a token is this one
abbrev pub is_token : Token → Token → Bool
is_token (Word a) t = is_word a t
is_token (Sign a) t = is_sign a t
is_token (QuotedName a) (QuotedName b) = same_text a b
is_token (Number a) (Number b) = same_text a b
is_token (Quote a) (Quote b) = same_text a b
is_token _ _ = false

-- whether the token is in front; if so, with the tokens after it, else with all tokens
abbrev pub eat : Token → List Token → Bool × List Token
eat t [] = (false, [])
eat t (u ∷ us) = if is_token t u then (true, us) else (false, u ∷ us)

-- reads the token
unfoldable pub expect : Token → Parser (Unit {0})
expect t ts = if (eat t ts).0 then Read tt (eat t ts).1 else Failed

-- reads a keyword
abbrev pub keyword : List ℕ → Parser (Unit {0})
keyword w = expect (Word w)

-- reads a symbol
abbrev pub symbol : Symbol → Parser (Unit {0})
symbol s = expect (Sign s)

-- reads a name: a word that is not reserved, or a quoted name
unfoldable pub name_at : Parser Name
name_at (Word n ∷ ts) = if is_reserved n then Failed else Read n ts
name_at (QuotedName n ∷ ts) = Read n ts
name_at _ = Failed

-- reads a number
unfoldable pub number_at : Parser (List ℕ)
number_at (Number ds ∷ ts) = Read ds ts
number_at _ = Failed

-- reads a text in quotes
unfoldable pub quote_at : Parser (List ℕ)
quote_at (Quote t ∷ ts) = Read t ts
quote_at _ = Failed

-- ---- tests on the tokens in front

-- whether a token is a name
abbrev pub is_name : Token → Bool
is_name (Word n) = not (is_reserved n)
is_name (QuotedName n) = true
is_name _ = false

-- whether a name is in front
abbrev pub begins_name : List Token → Bool
begins_name [] = false
begins_name (t ∷ ts) = is_name t

-- whether the token is in front
abbrev pub begins : Token → List Token → Bool
begins t [] = false
begins t (u ∷ us) = is_token t u

-- whether the token is the second one
abbrev pub begins_second : Token → List Token → Bool
begins_second t [] = false
begins_second t (u ∷ us) = begins t us

-- whether the token is the third one
abbrev pub begins_third : Token → List Token → Bool
begins_third t [] = false
begins_third t (u ∷ us) = begins_second t us

-- ---- choices and lists

-- consumes the token and applies the first rule, if the token is in front; else applies the second rule
abbrev pub if_front : {A : Type 0} → Token → Parser A → Parser A → Parser A
if_front t p q ts = if (eat t ts).0 then p (eat t ts).1 else q (eat t ts).1

-- consumes the token and applies the rule, if the token is in front; else reads None
abbrev pub behind : {A : Type 0} → Token → Parser A → Parser (Option A)
behind t p = if_front t (λ us. into Some (p us)) (found None)

-- repeats the step as long as it reads an element, and appends the elements to `xs`; the number bounds the turns
unfoldable pub repeated : {A : Type 0} → Parser (Option A) → ℕ → List A → Parser (List A)
repeated step zero xs ts = Read xs ts
repeated step (suc n) xs ts =
    step ts >>= λ o rest. elim o [
      | None ↦ Read xs rest
      | Some x ↦ repeated step n (xs ++ x ∷ []) rest
    ]

-- repeats the step as long as it reads an element, and appends the elements to `xs`
abbrev pub more : {A : Type 0} → Parser (Option A) → List A → Parser (List A)
more step xs ts = repeated step (length ts) xs ts

-- a comma and an element, if a comma is in front
abbrev pub next : {A : Type 0} → Parser A → Parser (Option A)
next p = behind (Sign Comma) p

-- one or more elements with commas between
abbrev pub separated : {A : Type 0} → Parser A → Parser (List A)
separated p ts = p ts >>= λ x rest. more (next p) (x ∷ []) rest

-- the value that was read, if no token is left after it
abbrev pub whole : {A : Type 0} → Outcome A → Option A
whole Failed = None
whole (Read x []) = Some x
whole (Read x (t ∷ ts)) = None

-- ---- optional tokens

-- the digits of the number in front, if one is there, and the remaining tokens
abbrev pub eat_number : List Token → Option (List ℕ) × List Token
eat_number (Number ds ∷ ts) = (Some ds, ts)
eat_number ts = (None, ts)

-- the content of the text in front, if one is there, and the remaining tokens
abbrev pub eat_quote : List Token → Option (List ℕ) × List Token
eat_quote (Quote t ∷ ts) = (Some t, ts)
eat_quote ts = (None, ts)
