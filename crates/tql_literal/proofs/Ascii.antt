-- The texts of dates and timestamps are ASCII, and contain no quote.
use Rattle.std.proofs.Common.{◌≡◌, ℕ, ◌^◌, ◌<◌, ◌≤◌, List, [], ◌∷◌, ◌++◌, true, false, refl, sym, ◌∙◌, ap}
use Rattle.std.proofs.Common.{arith, inl, inr, subst}
use Rattle.std.proofs.lemmas.Bool.{cases_Bool, eqb-true}
use Rattle.std.proofs.lemmas.Bool.Decides.{nat_tests}
use Rattle.std.proofs.lemmas.Str.Ascii.{IsAscii-nil, IsAscii-cons}
use Rattle.std.specs.Prelude.{◌==◌, ℤ}
use Rattle.std.specs.List.{list_all}
use Rattle.std.specs.Str.{IsAscii}
use Rattle.tql_spec.specs.Calendar.{days_in_month, is_date}
use Rattle.tql_spec.specs.Text.{date_text, doubled, padded}
use Rattle.tql_value.proofs.DayNumbers.{date-from_test}
use Rattle.tql_result_laws.proofs.Cuts.{and_left, and_right}
use Rattle.tql_result_laws.proofs.Words.{all_append, date_word, is_word, padded_word}

-- the bytes of words are ASCII
word_ascii : (b : ℕ) → is_word b ≡ true → b < 128
word_ascii b h = grind (arith, nat_tests)

-- a text of these bytes is ASCII
pub words_ascii : (bs : List ℕ) → list_all is_word bs ≡ true → IsAscii bs
words_ascii [] h = IsAscii-nil
words_ascii (b ∷ bs) h =
    IsAscii-cons b bs (word_ascii b (and_left _ _ h)) (words_ascii bs (and_right _ _ h))

-- the text of a date is ASCII
pub date_ascii : (y m d : ℕ) (bytes : List ℕ) → y < 10000 → m < 100 → d < 100 → bytes ≡ date_text (y, m, d)
    → IsAscii bytes
date_ascii y m d bytes hy hm hd e =
    subst IsAscii (sym e)
    (words_ascii (date_text (y, m, d)) (date_word (y, m, d) (omega arith) (omega arith) (omega arith)))

month_short : (y m : ℕ) → days_in_month y m ≤ 31
month_short y m = grind arith

-- the same for a date within the calendar
pub valid_ascii : (y m d : ℕ) (bytes : List ℕ) → is_date y m d ≡ true → bytes ≡ date_text (y, m, d) → IsAscii bytes
valid_ascii y m d bytes valid e =
    let h = date-from_test y m d valid in
    let most = month_short y m in
    let year = h.last_year in
    let month = h.last_month in
    let day = h.last_day in
    date_ascii y m d bytes (omega arith) (omega arith) (omega arith) e

-- a blank and a time without a fraction are ASCII
pub clock_ascii : (h m s : ℕ) (bytes : List ℕ) → h < 100 → m < 100 → s < 100
    → bytes ≡ 32 ∷ padded 2 h ++ 58 ∷ padded 2 m ++ 58 ∷ padded 2 s → IsAscii bytes
clock_ascii h m s bytes hh hm hs e =
    subst IsAscii (sym e)
    (words_ascii (32 ∷ padded 2 h ++ 58 ∷ padded 2 m ++ 58 ∷ padded 2 s)
    (all_append is_word ((32 ∷ padded 2 h) ++ (58 ∷ padded 2 m)) (58 ∷ padded 2 s)
    (all_append is_word (32 ∷ padded 2 h) (58 ∷ padded 2 m) (padded_word 2 h (omega arith))
    (padded_word 2 m (omega arith)))
    (padded_word 2 s (omega arith))))

-- a fraction is ASCII
pub fraction_ascii : (micros : ℕ) (bytes : List ℕ) → micros < 1000000 → bytes ≡ 46 ∷ padded 6 micros → IsAscii bytes
fraction_ascii micros bytes h e =
    subst IsAscii (sym e) (words_ascii (46 ∷ padded 6 micros) (padded_word 6 micros (omega arith)))

-- the bytes of words are not quotes
word_plain : (b : ℕ) → is_word b ≡ true → (b == 39) ≡ false
word_plain b h = elim (cases_Bool (b == 39)) [
  | inl same ↦
      let never : is_word 39 ≡ true = subst (λ k. is_word k ≡ true) (eqb-true b 39 same) h in absurd (cc)
  | inr other ↦ other
]

-- a text without quotes is unchanged by doubling
pub words_plain : (bs : List ℕ) → list_all is_word bs ≡ true → doubled 39 bs ≡ bs
words_plain [] h = refl
words_plain (b ∷ bs) h =
    rw (word_plain b (and_left _ _ h)) (ap (λ l. b ∷ l) (words_plain bs (and_right _ _ h)))
