-- Correctness of the tests on words.
use Rattle.std.proofs.Common.{◌≡◌, ◌≢◌, ◌≤◌, ℕ, List, [], ◌∷◌, length, drop, get_or, Bool, true, false, refl, sym, ap}
use Rattle.std.proofs.Common.{◌∙◌, arith}
use Rattle.std.specs.Prelude.{◌↔◌, map}
use Rattle.std.specs.Str.{bytes_eq}
use Rattle.std.proofs.lemmas.List.{length-map}
use Rattle.std.proofs.lemmas.Map.Text.{is_eq-slice_cmp}
use Rattle.std.proofs.lemmas.Slice.Eq.{bytes_eq-Decides}
use Rattle.tql_spec.specs.Words.{same_text}
use Rattle.tql_spec.specs.Token.{Symbol, Open, Close, Comma, Dot, PlusSign, MinusSign, Star, EqualSign, UnequalSign}
use Rattle.tql_spec.specs.Token.{LessSign, AtMostSign, MoreSign, AtLeastSign, Token, Word, QuotedName, Number, Quote}
use Rattle.tql_spec.specs.Token.{Sign, upper}
use Rattle.tql_lex.specs.Tests.{is_word, is_sign, same_symbol}

pub same_bytes : (xs ys : List ℕ) → same_text xs ys ≡ bytes_eq xs ys
same_bytes xs ys = is_eq-slice_cmp xs ys

text_is : (xs ys : List ℕ) → same_text xs ys ≡ true → xs ≡ ys
text_is xs ys e = (bytes_eq-Decides xs ys).0 (sym (same_bytes xs ys) ∙ e)

text_self : (xs : List ℕ) → same_text xs xs ≡ true
text_self xs = same_bytes xs xs ∙ (bytes_eq-Decides xs xs).1 refl

-- texts of different lengths are not the same
pub other_length : (xs ys : List ℕ) → length xs ≢ length ys → false ≡ same_text (map upper xs) ys
other_length xs ys apart = by (same_text (map upper xs) ys) refl where
  by : (t : Bool) → same_text (map upper xs) ys ≡ t → false ≡ t
  by true e = absurd (apart (sym (length-map xs upper) ∙ ap length (text_is (map upper xs) ys e)))
  by false e = refl

-- a text in upper case, by its first letter
pub first_folded : (xs : List ℕ) (letter : ℕ) → 1 ≤ length xs → letter ≡ upper (get_or xs 0 0)
    → map upper xs ≡ letter ∷ map upper (drop 1 xs)
first_folded [] letter some is = absurd (omega (arith, some))
first_folded (x ∷ xs) letter some is = ap (λ (y : ℕ). y ∷ map upper xs) (sym is)

word_is : (v w : List ℕ) → Token.Word v ≡ Token.Word w → v ≡ w
word_is v w e = cc

sign_is : (x s : Symbol) → Token.Sign x ≡ Token.Sign s → x ≡ s
sign_is x s e = cc

pub is_word_tells : (w : List ℕ) (t : Token) → (is_word w t ≡ true) ↔ (t ≡ Word w)
is_word_tells w (Word v) = (λ e. ap Word (text_is v w e), λ e. rw (word_is v w e) (text_self w))
is_word_tells w (QuotedName n) = (λ e. absurd cc, λ e. absurd cc)
is_word_tells w (Number ds) = (λ e. absurd cc, λ e. absurd cc)
is_word_tells w (Quote t) = (λ e. absurd cc, λ e. absurd cc)
is_word_tells w (Sign s) = (λ e. absurd cc, λ e. absurd cc)

symbol_is : (x s : Symbol) → same_symbol x s ≡ true → x ≡ s
symbol_is Open Open e = refl
symbol_is Close Close e = refl
symbol_is Comma Comma e = refl
symbol_is Dot Dot e = refl
symbol_is PlusSign PlusSign e = refl
symbol_is MinusSign MinusSign e = refl
symbol_is Star Star e = refl
symbol_is EqualSign EqualSign e = refl
symbol_is UnequalSign UnequalSign e = refl
symbol_is LessSign LessSign e = refl
symbol_is AtMostSign AtMostSign e = refl
symbol_is MoreSign MoreSign e = refl
symbol_is AtLeastSign AtLeastSign e = refl
symbol_is _ _ e = absurd cc

symbol_self : (s : Symbol) → same_symbol s s ≡ true
symbol_self Open = refl
symbol_self Close = refl
symbol_self Comma = refl
symbol_self Dot = refl
symbol_self PlusSign = refl
symbol_self MinusSign = refl
symbol_self Star = refl
symbol_self EqualSign = refl
symbol_self UnequalSign = refl
symbol_self LessSign = refl
symbol_self AtMostSign = refl
symbol_self MoreSign = refl
symbol_self AtLeastSign = refl

pub is_sign_tells : (s : Symbol) (t : Token) → (is_sign s t ≡ true) ↔ (t ≡ Sign s)
is_sign_tells s (Word v) = (λ e. absurd cc, λ e. absurd cc)
is_sign_tells s (QuotedName n) = (λ e. absurd cc, λ e. absurd cc)
is_sign_tells s (Number ds) = (λ e. absurd cc, λ e. absurd cc)
is_sign_tells s (Quote t) = (λ e. absurd cc, λ e. absurd cc)
is_sign_tells s (Sign x) = (λ e. ap Sign (symbol_is x s e), λ e. rw (sign_is x s e) (symbol_self s))

pub word_tells : (r : Bool) (w text bytes other : List ℕ) (t : Token) → r ≡ same_text (map upper bytes) other
    → bytes ≡ text → other ≡ w → t ≡ Word (map upper text) → (r ≡ true) ↔ (t ≡ Word w)
word_tells r w text bytes other t e same wanted is =
    let v : r ≡ is_word w t = e ∙ ap (λ (z : List ℕ). same_text (map upper z) other) same
    ∙ ap (same_text (map upper text)) wanted ∙ ap (is_word w) (sym is) in
    rw v (is_word_tells w t)
