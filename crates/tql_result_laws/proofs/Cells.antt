-- Printed values and headings, each before its separator.
use Rattle.std.proofs.Common.{◌≡◌, ℕ, suc, ◌+◌, ◌/◌, ◌%◌, ◌^◌, ◌<◌, List, [], ◌∷◌, ◌++◌, true, false, refl}
use Rattle.std.proofs.Common.{sym, ◌∙◌, ap, arith, length, get_or, take, drop, decimal, inl, inr, ◌⊎◌, IsTrue}
use Rattle.std.proofs.lemmas.Bool.{cases_Bool, eqb-true}
use Rattle.std.proofs.lemmas.Bool.Decides.{nat_tests}
use Rattle.std.proofs.lemmas.Int.{ints}
use Rattle.std.proofs.lemmas.List.{append-nil}
use Rattle.std.proofs.lemmas.Fmt.{signed_decimal_injective, decimal_nonempty}
use Rattle.std.specs.Prelude.{◌==◌, ◌||◌, ℤ, pos, negsuc, if◌then◌else◌}
use Rattle.std.specs.List.{list_all}
use Rattle.std.specs.Fmt.{signed_decimal}
use Rattle.std.specs.Int.Signed.{mag}
use Rattle.tql_spec.specs.Calendar.{Parts, is_digit, day_parts, moment_day, moment_micros}
use Rattle.tql_spec.specs.Datum.{Datum, Null, Int, Text, Day, Moment, fits, rank}
use Rattle.tql_spec.specs.Definition.{Name}
use Rattle.tql_spec.specs.Text.{is_upper, is_bare, date_text, time_text, quoted, cell_text, heading_text}
use Rattle.tql_result_laws.specs.ReadBack.{IsKept}
use Rattle.tql_result_laws.proofs.Cuts.{and_left, and_right, and_both, begins, begins_append, Cuts, word_cut}
use Rattle.tql_result_laws.proofs.Cuts.{quoted_cut}
use Rattle.tql_result_laws.proofs.Cuts.{no_quote}
use Rattle.tql_result_laws.proofs.Dates.{IsShort, date_bytes, date_is, date_same, day_short, day_same, moment_short}
use Rattle.tql_result_laws.proofs.Dates.{micros_short, moment_same, time_same}
use Rattle.tql_result_laws.proofs.Words.{is_word, is_stop, apart, all_weaker, all_append, date_word}
use Rattle.tql_result_laws.proofs.Words.{time_word, signed_word, digit_at, decimal_digits}

-- a number that fits in 64 bits
pub fits_mag : (n : ℤ) → IsTrue (fits n) → mag n < 2 ^ 63
fits_mag (pos n) h = grind (arith, nat_tests, ints)
fits_mag (negsuc n) h = grind (arith, nat_tests, ints)

-- ---- the kind of value that a text comes from

-- the rank of the kind of a value, from some of its bytes: NULL, a quote, the hyphen after a year, the blank after a
-- date
abbrev pub tag : List ℕ → ℕ
tag w =
    if get_or w 0 0 == 78 then 0
    else (if get_or w 0 0 == 39 then 2
    else (if get_or w 4 0 == 45 then (if get_or w 10 0 == 32 then 4 else 3) else 1))

tag_one : (w : List ℕ) → (get_or w 0 0 == 78) ≡ false → (get_or w 0 0 == 39) ≡ false → (get_or w 4 0 == 45) ≡ false
    → tag w ≡ 1
tag_one w a b c = rw (a, b, c) refl

tag_three : (w : List ℕ) → (get_or w 0 0 == 78) ≡ false → (get_or w 0 0 == 39) ≡ false
    → (get_or w 4 0 == 45) ≡ true → (get_or w 10 0 == 32) ≡ false → tag w ≡ 3
tag_three w a b c d = rw (a, b, c, d) refl

tag_four : (w : List ℕ) → (get_or w 0 0 == 78) ≡ false → (get_or w 0 0 == 39) ≡ false
    → (get_or w 4 0 == 45) ≡ true → (get_or w 10 0 == 32) ≡ true → tag w ≡ 4
tag_four w a b c d = rw (a, b, c, d) refl

not_equal : (a b : ℕ) → (a ≡ b → ⊥) → (a == b) ≡ false
not_equal a b ne = elim (cases_Bool (a == b)) [
  | inl holds ↦ absurd (ne (eqb-true a b holds))
  | inr fails ↦ fails
]

pub digit_other : (ds : List ℕ) (k b : ℕ) → is_digit b ≡ false → (b ≡ 0 → ⊥) → list_all is_digit ds ≡ true
    → (get_or ds k 0 == b) ≡ false
digit_other ds k b other some h = not_equal (get_or ds k 0) b (λ e. digit_at ds k b other some h e)

first_digit : (k : ℕ) → k < 10 → ((48 + k == 78) ≡ false) × ((48 + k == 39) ≡ false)
first_digit k h = (not_equal (48 + k) 78 (λ e. omega arith), not_equal (48 + k) 39 (λ e. omega arith))

tag_int : (z : ℤ) → mag z < 2 ^ 63 → tag (signed_decimal z) ≡ 1
tag_int (pos n) h =
    let ds = decimal_digits n (omega arith) in
    tag_one (decimal n) (digit_other (decimal n) 0 78 refl (λ e. omega arith) ds)
    (digit_other (decimal n) 0 39 refl (λ e. omega arith) ds) (digit_other (decimal n) 4 45 refl (λ e. omega arith) ds)
tag_int (negsuc n) h =
    let ds = decimal_digits (suc n) (omega arith) in
    tag_one (45 ∷ decimal (suc n)) refl refl (digit_other (decimal (suc n)) 3 45 refl (λ e. omega arith) ds)

tag_day : (p : Parts) → IsShort p → tag (date_text p) ≡ 3
tag_day p h =
    let first = first_digit (p.0 / 1000 % 10) (omega arith) in
    ap tag (date_is p h) ∙ tag_three (date_bytes p) first.0 first.1 refl refl

tag_moment : (p : Parts) (t : List ℕ) → IsShort p → tag (date_text p ++ 32 ∷ t) ≡ 4
tag_moment p t h =
    let first = first_digit (p.0 / 1000 % 10) (omega arith) in
    ap (λ l. tag (l ++ 32 ∷ t)) (date_is p h) ∙ tag_four (date_bytes p ++ 32 ∷ t) first.0 first.1 refl refl

pub tag_is : (d : Datum) → IsKept d → tag (cell_text d) ≡ rank d
tag_is Null h = refl
tag_is (Int n) h = tag_int n (fits_mag n h)
tag_is (Text t) h = refl
tag_is (Day d) h = tag_day (day_parts d) (day_short d h)
tag_is (Moment m) h = tag_moment (moment_day m) (time_text (moment_micros m)) (moment_short m h)

-- ---- values with the same text

texts_same : (s t : List ℕ) → quoted 39 s ≡ quoted 39 t → s ≡ t
texts_same s t e =
    (quoted_cut 39 s t [] [] (λ w none. absurd (cc)) (λ w none. absurd (cc)) (ap (λ l. l ++ []) e)).0

days_same : (d e : ℤ) → IsKept (Day d) → IsKept (Day e) → cell_text (Day d) ≡ cell_text (Day e) → d ≡ e
days_same d e hd he same =
    day_same d e hd he
    (date_same (day_parts d) (day_parts e) (day_short d hd) (day_short e he)
    (sym (date_is (day_parts d) (day_short d hd)) ∙ same ∙ date_is (day_parts e) (day_short e he)))

moments_same : (m n : ℤ) → IsKept (Moment m) → IsKept (Moment n) → cell_text (Moment m) ≡ cell_text (Moment n) → m ≡ n
moments_same m n hm hn same =
    let t = time_text (moment_micros m) in
    let u = time_text (moment_micros n) in
    let bytes : date_bytes (moment_day m) ++ 32 ∷ t ≡ date_bytes (moment_day n) ++ 32 ∷ u =
    sym (ap (λ l. l ++ 32 ∷ t) (date_is (moment_day m) (moment_short m hm))) ∙ same
    ∙ ap (λ l. l ++ 32 ∷ u) (date_is (moment_day n) (moment_short n hn)) in
    let days : moment_day m ≡ moment_day n =
    date_same (moment_day m) (moment_day n) (moment_short m hm) (moment_short n hn) (ap (take 10) bytes) in
    let micros : moment_micros m ≡ moment_micros n =
    time_same (moment_micros m) (moment_micros n) (micros_short m) (micros_short n) (ap (drop 11) bytes) in
    moment_same m n hm hn days micros

pub cells_same : (a b : Datum) → IsKept a → IsKept b → rank a ≡ rank b → cell_text a ≡ cell_text b → a ≡ b
cells_same Null Null ha hb r same = refl
cells_same Null (Int m) ha hb r same = absurd (omega arith)
cells_same Null (Text t) ha hb r same = absurd (omega arith)
cells_same Null (Day e) ha hb r same = absurd (omega arith)
cells_same Null (Moment y) ha hb r same = absurd (omega arith)
cells_same (Int n) Null ha hb r same = absurd (omega arith)
cells_same (Int n) (Int m) ha hb r same = ap Int (signed_decimal_injective n m (fits_mag n ha) (fits_mag m hb) same)
cells_same (Int n) (Text t) ha hb r same = absurd (omega arith)
cells_same (Int n) (Day e) ha hb r same = absurd (omega arith)
cells_same (Int n) (Moment y) ha hb r same = absurd (omega arith)
cells_same (Text s) Null ha hb r same = absurd (omega arith)
cells_same (Text s) (Int m) ha hb r same = absurd (omega arith)
cells_same (Text s) (Text t) ha hb r same = ap Text (texts_same s t same)
cells_same (Text s) (Day e) ha hb r same = absurd (omega arith)
cells_same (Text s) (Moment y) ha hb r same = absurd (omega arith)
cells_same (Day d) Null ha hb r same = absurd (omega arith)
cells_same (Day d) (Int m) ha hb r same = absurd (omega arith)
cells_same (Day d) (Text t) ha hb r same = absurd (omega arith)
cells_same (Day d) (Day e) ha hb r same = ap Day (days_same d e ha hb same)
cells_same (Day d) (Moment y) ha hb r same = absurd (omega arith)
cells_same (Moment x) Null ha hb r same = absurd (omega arith)
cells_same (Moment x) (Int m) ha hb r same = absurd (omega arith)
cells_same (Moment x) (Text t) ha hb r same = absurd (omega arith)
cells_same (Moment x) (Day e) ha hb r same = absurd (omega arith)
cells_same (Moment x) (Moment y) ha hb r same = ap Moment (moments_same x y ha hb same)

-- ---- values can be cut off

-- the text of a value is in quotes, or is a word
abbrev pub CellForm : Datum → Type 0
CellForm d = ((t : List ℕ) × (d ≡ Text t)) ⊎ ((list_all is_word (cell_text d) ≡ true) × (0 < length (cell_text d)))

date_long : (p : Parts) (t : List ℕ) → IsShort p → 0 < length (date_text p ++ t)
date_long p t h =
    let e : length (date_text p ++ t) ≡ length (date_bytes p ++ t) =
    ap (λ l. length (l ++ t)) (date_is p h) in omega arith

pub moment_word : (m : ℤ) → IsKept (Moment m) → list_all is_word (cell_text (Moment m)) ≡ true
moment_word m h =
    let short = moment_short m h in
    all_append is_word (date_text (moment_day m)) (32 ∷ time_text (moment_micros m))
    (date_word (moment_day m) (omega (arith, short.year)) (omega (arith, short.month)) (omega (arith, short.day)))
    (time_word (moment_micros m) (omega (arith, micros_short m)))

pub int_long : (z : ℤ) → mag z < 2 ^ 63 → 0 < length (signed_decimal z)
int_long (pos n) h = decimal_nonempty n (omega arith)
int_long (negsuc n) h = omega arith

pub cell_form : (d : Datum) → IsKept d → CellForm d
cell_form Null h = inr (refl, omega arith)
cell_form (Int n) h = inr (signed_word n (fits_mag n h), int_long n (fits_mag n h))
cell_form (Text t) h = inl (t, refl)
cell_form (Day d) h =
    let short = day_short d h in
    let long : 0 < length (date_text (day_parts d) ++ []) = date_long (day_parts d) [] short in
    inr (
      date_word (day_parts d) (omega (arith, short.year)) (omega (arith, short.month)) (omega (arith, short.day)),
      simp append-nil at long,
    )
cell_form (Moment m) h =
    inr (moment_word m h, date_long (moment_day m) (32 ∷ time_text (moment_micros m)) (moment_short m h))

-- no word begins with a quote
no_word : (q : ℕ) → is_word q ≡ false → (t u w v : List ℕ) → list_all is_word w ≡ true → 0 < length w
    → quoted q t ++ u ≡ w ++ v → ⊥
no_word q other t u w v h some e =
    let holds : is_word q ≡ true = ap (begins is_word) e ∙ begins_append is_word w v some h in absurd (cc)

pub cell_cut : Cuts IsKept cell_text is_stop
cell_cut a b u v ka kb su sv e = elim (cell_form a ka) [
  | inl s ↦ elim (cell_form b kb) [
    | inl t ↦
        let both : quoted 39 s.0 ++ u ≡ quoted 39 t.0 ++ v =
        ap (λ d. cell_text d ++ u) (sym s.1) ∙ e ∙ ap (λ d. cell_text d ++ v) t.1 in
        let cut = quoted_cut 39 s.0 t.0 u v (no_quote is_stop 39 refl u su) (no_quote is_stop 39 refl v sv) both in
        (s.1 ∙ ap Text cut.0 ∙ sym t.1, cut.1)
    | inr w ↦
        absurd (no_word 39 refl s.0 u (cell_text b) v w.0 w.1 (ap (λ d. cell_text d ++ u) (sym s.1) ∙ e))
  ]
  | inr w ↦ elim (cell_form b kb) [
    | inl t ↦
        absurd (no_word 39 refl t.0 v (cell_text a) u w.0 w.1 (ap (λ d. cell_text d ++ v) (sym t.1) ∙ sym e))
    | inr x ↦
        let cut = word_cut is_word is_stop apart (cell_text a) (cell_text b) u v w.0 x.0 su sv e in
        let ranks : rank a ≡ rank b = sym (tag_is a ka) ∙ ap tag cut.0 ∙ tag_is b kb in
        (cells_same a b ka kb ranks cut.0, cut.1)
  ]
]

-- a value begins with a byte of a word or with a quote
pub cell_begins : (d : Datum) (u : List ℕ) → IsKept d → begins (λ b. is_word b || (b == 39)) (cell_text d ++ u) ≡ true
cell_begins d u h = elim (cell_form d h) [
  | inl t ↦ ap (λ x. begins (λ b. is_word b || (b == 39)) (cell_text x ++ u)) t.1
  | inr w ↦
      begins_append (λ b. is_word b || (b == 39)) (cell_text d) u w.1
      (all_weaker is_word (λ b. is_word b || (b == 39)) (λ b holds. rw holds refl) (cell_text d) w.0)
]

-- ---- headings

upper_is_word : (b : ℕ) → is_upper b ≡ true → is_word b ≡ true
upper_is_word b h = elim (cases_Bool (is_digit b)) [ inl holds ↦ rw holds refl | inr fails ↦ rw (fails, h) refl ]

bare_is_word : (b : ℕ) → (is_upper b || is_digit b) ≡ true → is_word b ≡ true
bare_is_word b h = elim (cases_Bool (is_digit b)) [
  | inl holds ↦ rw holds refl
  | inr fails ↦ elim (cases_Bool (is_upper b)) [
    | inl holds ↦ upper_is_word b holds
    | inr none ↦ let never = rw (fails, none) at h in absurd (cc)
  ]
]

bare_word : (n : Name) → is_bare n ≡ true → (list_all is_word n ≡ true) × (0 < length n)
bare_word [] h = absurd (cc)
bare_word (b ∷ bs) h = (
  and_both (is_word b) (list_all is_word bs) (upper_is_word b (and_left _ _ h))
      (all_weaker (λ c. is_upper c || is_digit c) is_word bare_is_word bs (and_right _ _ h)),
  omega arith,
)

heading_bare : (n : Name) → is_bare n ≡ true → heading_text n ≡ n
heading_bare n h = rw h refl

heading_quoted : (n : Name) → is_bare n ≡ false → heading_text n ≡ quoted 34 n
heading_quoted n h = rw h refl

pub heading_cut : Cuts (λ n. Unit {0}) heading_text is_stop
heading_cut a b u v ka kb su sv e = elim (cases_Bool (is_bare a)) [
  | inl bare ↦ elim (cases_Bool (is_bare b)) [
    | inl also ↦
        let both : a ++ u ≡ b ++ v =
        ap (λ l. l ++ u) (sym (heading_bare a bare)) ∙ e ∙ ap (λ l. l ++ v) (heading_bare b also) in
        word_cut is_word is_stop apart a b u v (bare_word a bare).0 (bare_word b also).0 su sv both
    | inr not ↦
        absurd (no_word 34 refl b v a u (bare_word a bare).0 (bare_word a bare).1
        (ap (λ l. l ++ v) (sym (heading_quoted b not)) ∙ sym e ∙ ap (λ l. l ++ u) (heading_bare a bare)))
  ]
  | inr not ↦ elim (cases_Bool (is_bare b)) [
    | inl bare ↦
        absurd (no_word 34 refl a u b v (bare_word b bare).0 (bare_word b bare).1
        (ap (λ l. l ++ u) (sym (heading_quoted a not)) ∙ e ∙ ap (λ l. l ++ v) (heading_bare b bare)))
    | inr also ↦
        let both : quoted 34 a ++ u ≡ quoted 34 b ++ v =
        ap (λ l. l ++ u) (sym (heading_quoted a not)) ∙ e ∙ ap (λ l. l ++ v) (heading_quoted b also) in
        quoted_cut 34 a b u v (no_quote is_stop 34 refl u su) (no_quote is_stop 34 refl v sv) both
  ]
]
