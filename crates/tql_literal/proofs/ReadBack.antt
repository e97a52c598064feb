-- Each literal is read as its value.
use Rattle.std.proofs.Common.{◌≡◌, ℕ, suc, ◌^◌, ◌<◌, List, [], ◌∷◌, ◌++◌, refl, arith, true, decimal}
use Rattle.std.proofs.lemmas.Bool.Decides.{nat_tests}
use Rattle.std.proofs.lemmas.Int.{ints}
use Rattle.std.specs.Prelude.{ℤ, pos, negsuc, codes, IsTrue}
use Rattle.std.specs.List.{list_all}
use Rattle.tql_spec.specs.Calendar.{day_parts, moment_day, moment_micros, read_date, read_timestamp}
use Rattle.tql_spec.specs.Datum.{Datum, Null, Int, Text, Day, Moment, Ints, Texts, Days, Moments, fits}
use Rattle.tql_spec.specs.Syntax.{DateLiteral, Negative, NullCell, NumberLiteral, TextLiteral, TimestampLiteral}
use Rattle.tql_spec.specs.Syntax.{Unsigned}
use Rattle.tql_spec.specs.Text.{cell_text, doubled, time_text, date_text}
use Rattle.tql_spec.specs.Token.{MinusSign, Number, Quote, Sign, Word, nothing}
use Rattle.tql_result_laws.specs.ReadBack.{IsKept}
use Rattle.tql_result_laws.proofs.Dates.{day_short, micros_short, moment_short}
use Rattle.tql_result_laws.proofs.Words.{all_append, date_word, is_word, time_word}
use Rattle.tql_value.specs.Points.{IsDay, IsMoment}
use Rattle.tql_literal.specs.ReadBack.{LiteralsReadBack, ReadsBack}
use Rattle.tql_literal.proofs.Ascii.{words_plain}
use Rattle.tql_literal.proofs.NumbersRead.{cell_by, cell_clean, cell_value, literal_is, negative_is, positive_is}
use Rattle.tql_literal.proofs.PointsRead.{points_read}
use Rattle.tql_literal.proofs.Tokens.{marked_spelled, minus_spelled, null_spelled, number_spelled, quote_spelled}

-- ---- whole numbers

positive_small : (n : ℕ) → IsTrue (fits (pos n)) → n < 2 ^ 63
positive_small n h = grind (arith, nat_tests, ints)

negative_small : (n : ℕ) → IsTrue (fits (negsuc n)) → n < 2 ^ 63
negative_small n h = grind (arith, nat_tests, ints)

int_back : (z : ℤ) → IsTrue (fits z) → ReadsBack (Int z)
int_back (pos n) h =
    let small = positive_small n h in
    let s = Unsigned (NumberLiteral (decimal n)) in record {
      tokens = Number (decimal n) ∷ [];
      cell = cell_by s;
      spelled = λ rest behind part others. number_spelled n rest behind (omega arith) part others;
      read = λ behind. (behind, (behind, refl, refl), refl);
      clean = λ scope. cell_clean scope s (Int (pos n)) Ints (positive_is scope n small);
      value = λ scope. cell_value scope s (Int (pos n)) Ints (positive_is scope n small);
    }
int_back (negsuc n) h =
    let small = negative_small n h in
    let ds = decimal (suc n) in
    let s = Negative (NumberLiteral ds) in record {
      tokens = Sign MinusSign ∷ Number ds ∷ [];
      cell = cell_by s;
      spelled = λ rest behind part others. minus_spelled (suc n) rest behind (omega arith) part others;
      read = λ behind. (behind, (behind, (Number ds ∷ behind, refl, refl), refl), refl);
      clean = λ scope. cell_clean scope s (Int (negsuc n)) Ints (negative_is scope n small);
      value = λ scope. cell_value scope s (Int (negsuc n)) Ints (negative_is scope n small);
    }

-- ---- texts

text_back : (t : List ℕ) → ReadsBack (Text t)
text_back t = let s = Unsigned (TextLiteral t) in record {
  tokens = Quote t ∷ [];
  cell = cell_by s;
  spelled = λ rest behind part others. quote_spelled t rest behind part others;
  read = λ behind. (behind, (behind, refl, refl), refl);
  clean = λ scope. cell_clean scope s (Text t) Texts refl;
  value = λ scope. cell_value scope s (Text t) Texts refl;
}

-- ---- points

day_plain : (d : ℤ) → IsDay d → doubled 39 (cell_text (Day d)) ≡ cell_text (Day d)
day_plain d h =
    let short = day_short d h in
    words_plain (date_text (day_parts d))
    (date_word (day_parts d) (omega (arith, short.year)) (omega (arith, short.month)) (omega (arith, short.day)))

day_back : (d : ℤ) → IsDay d → ReadsBack (Day d)
day_back d h =
    let t = cell_text (Day d) in
    let s = Unsigned (DateLiteral t) in
    let is = literal_is Days Day (read_date t) d (points_read.days d h) in record {
      tokens = Word (codes "DATE") ∷ Quote t ∷ [];
      cell = cell_by s;
      spelled = λ rest behind part others. (
        [],
        codes "DATE",
        (32 ∷ 39 ∷ (t ++ 39 ∷ [])) ++ rest,
        refl,
        nothing,
        (refl, refl),
        refl,
        marked_spelled t rest behind (day_plain d h) part others,
      );
      read = λ behind. (behind, (behind, (Quote t ∷ behind, refl, refl), refl), refl);
      clean = λ scope. cell_clean scope s (Day d) Days is;
      value = λ scope. cell_value scope s (Day d) Days is;
    }

moment_plain : (m : ℤ) → IsMoment m → doubled 39 (cell_text (Moment m)) ≡ cell_text (Moment m)
moment_plain m h =
    let short = moment_short m h in
    words_plain (date_text (moment_day m) ++ 32 ∷ time_text (moment_micros m))
    (all_append is_word (date_text (moment_day m)) (32 ∷ time_text (moment_micros m))
    (date_word (moment_day m) (omega (arith, short.year)) (omega (arith, short.month)) (omega (arith, short.day)))
    (time_word (moment_micros m) (omega (arith, micros_short m))))

moment_back : (m : ℤ) → IsMoment m → ReadsBack (Moment m)
moment_back m h =
    let t = cell_text (Moment m) in
    let s = Unsigned (TimestampLiteral t) in
    let is = literal_is Moments Moment (read_timestamp t) m (points_read.moments m h) in record {
      tokens = Word (codes "TIMESTAMP") ∷ Quote t ∷ [];
      cell = cell_by s;
      spelled = λ rest behind part others. (
        [],
        codes "TIMESTAMP",
        (32 ∷ 39 ∷ (t ++ 39 ∷ [])) ++ rest,
        refl,
        nothing,
        (refl, refl),
        refl,
        marked_spelled t rest behind (moment_plain m h) part others,
      );
      read = λ behind. (behind, (behind, (Quote t ∷ behind, refl, refl), refl), refl);
      clean = λ scope. cell_clean scope s (Moment m) Moments is;
      value = λ scope. cell_value scope s (Moment m) Moments is;
    }

-- the law
pub literals_back : LiteralsReadBack
literals_back Null h = record {
  tokens = Word (codes "NULL") ∷ [];
  cell = NullCell;
  spelled = null_spelled;
  read = λ behind. refl;
  clean = λ scope. refl;
  value = λ scope. refl;
}
literals_back (Int n) h = int_back n h
literals_back (Text t) h = text_back t
literals_back (Day d) h = day_back d h
literals_back (Moment m) h = moment_back m h
