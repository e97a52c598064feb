-- The tokens of literals, before any separator.
use Rattle.std.proofs.Common.{◌≡◌, ℕ, suc, ◌+◌, ◌^◌, ◌<◌, List, [], ◌∷◌, ◌++◌, refl, sym, ◌∙◌, ap, arith, true, false}
use Rattle.std.proofs.Common.{decimal, length}
use Rattle.std.proofs.lemmas.Bool.Decides.{nat_tests}
use Rattle.std.proofs.lemmas.Fmt.{decimal_nonempty}
use Rattle.std.specs.Prelude.{Bool, ◌||◌, ◌==◌, codes, IsTrue, IsFalse}
use Rattle.std.specs.List.{list_all}
use Rattle.tql_spec.specs.Calendar.{is_digit}
use Rattle.tql_spec.specs.Text.{doubled, quoted}
use Rattle.tql_spec.specs.Token.{AreTokens, IsLongest, MinusSign, Number, Quote, Sign, Token, Word, is_number}
use Rattle.tql_spec.specs.Token.{is_word_byte, nothing, blank}
use Rattle.tql_result_laws.proofs.Cuts.{and_left}
use Rattle.tql_result_laws.proofs.Words.{decimal_digits}
use Rattle.tql_literal.specs.ReadBack.{IsParted}

neither_left : (a b : Bool) → (a || b) ≡ false → a ≡ false
neither_left true b h = absurd (cc)
neither_left false b h = refl

neither_right : (a b : Bool) → (a || b) ≡ false → b ≡ false
neither_right true b h = absurd (cc)
neither_right false b h = h

-- a separator continues no word, number or text
word_longest : (w rest : List ℕ) → IsParted rest → IsLongest (Word w) rest
word_longest w [] h = tt
word_longest w (b ∷ rest) h = neither_left (is_word_byte b) (b == 39) h

number_longest : (ds rest : List ℕ) → IsParted rest → IsLongest (Number ds) rest
number_longest ds [] h = tt
number_longest ds (b ∷ rest) h = neither_left (is_word_byte b) (b == 39) h

quote_longest : (t rest : List ℕ) → IsParted rest → IsLongest (Quote t) rest
quote_longest t [] h = tt
quote_longest t (b ∷ rest) h = neither_right (is_word_byte b) (b == 39) h

-- NULL
pub null_spelled : (rest : List ℕ) (behind : List Token) → IsParted rest → AreTokens behind rest
    → AreTokens (Word (codes "NULL") ∷ behind) (codes "NULL" ++ rest)
null_spelled rest behind part others =
    ([], codes "NULL", rest, refl, nothing, (refl, refl), word_longest (codes "NULL") rest part, others)

-- a text in quotes
pub quote_spelled : (t rest : List ℕ) (behind : List Token) → IsParted rest → AreTokens behind rest
    → AreTokens (Quote t ∷ behind) (quoted 39 t ++ rest)
quote_spelled t rest behind part others =
    ([], quoted 39 t, rest, refl, nothing, refl, quote_longest t rest part, others)

-- digits form a number
are_number : (ds : List ℕ) → 0 < length ds → list_all is_digit ds ≡ true → is_number ds ≡ true
are_number [] some h = absurd (omega arith)
are_number (d ∷ ds) some h = h

decimal_number : (n : ℕ) → n < 2 ^ 64 → is_number (decimal n) ≡ true
decimal_number n h = are_number (decimal n) (decimal_nonempty n h) (decimal_digits n h)

pub number_spelled : (n : ℕ) (rest : List ℕ) (behind : List Token) → n < 2 ^ 64 → IsParted rest
    → AreTokens behind rest → AreTokens (Number (decimal n) ∷ behind) (decimal n ++ rest)
number_spelled n rest behind small part others =
    ([], decimal n, rest, refl, nothing, (decimal_number n small, refl), number_longest (decimal n) rest part, others)

-- a minus before a digit does not begin a comment
digit_no_minus : (b : ℕ) → is_digit b ≡ true → (b == 45) ≡ false
digit_no_minus b h = grind (arith, nat_tests)

minus_longest : (ds rest : List ℕ) → is_number ds ≡ true → IsLongest (Sign MinusSign) (ds ++ rest)
minus_longest [] rest h = absurd (cc)
minus_longest (d ∷ ds) rest h = digit_no_minus d (and_left _ _ h)

pub minus_spelled : (n : ℕ) (rest : List ℕ) (behind : List Token) → n < 2 ^ 64 → IsParted rest
    → AreTokens behind rest
    → AreTokens (Sign MinusSign ∷ Number (decimal n) ∷ behind) ((45 ∷ decimal n) ++ rest)
minus_spelled n rest behind small part others = (
  [],
  45 ∷ [],
  decimal n ++ rest,
  refl,
  nothing,
  refl,
  minus_longest (decimal n) rest (decimal_number n small),
  number_spelled n rest behind small part others,
)

-- a blank and a quoted text without quotes in it
pub marked_spelled : (t rest : List ℕ) (behind : List Token) → doubled 39 t ≡ t → IsParted rest
    → AreTokens behind rest → AreTokens (Quote t ∷ behind) ((32 ∷ 39 ∷ (t ++ 39 ∷ [])) ++ rest)
marked_spelled t rest behind plain part others = (
  32 ∷ [],
  39 ∷ (t ++ 39 ∷ []),
  rest,
  refl,
  blank refl nothing,
  ap (λ (l : List ℕ). 39 ∷ (l ++ 39 ∷ [])) (sym plain),
  quote_longest t rest part,
  others,
)
