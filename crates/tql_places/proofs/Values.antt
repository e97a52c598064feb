-- Values that are read one after another.
use Rattle.std.proofs.Common.{◌≡◌, ◌≤◌, ◌<◌, ℕ, suc, ◌+◌, ◌-◌, Bool, true, false, refl, List, [], ◌∷◌, ◌++◌, length}
use Rattle.std.proofs.Common.{Option, Some, None, ap, sym, ◌∙◌, arith, append_assoc, subst, IsUtf8, if◌then◌else◌}
use Rattle.std.proofs.Common.{map, take, drop}
use Rattle.std.proofs.lemmas.Bool.Decides.{nat_tests}
use Rattle.std.proofs.lemmas.List.{map_push}
use Rattle.std.proofs.lemmas.Str.{IsUtf8-from_is_utf8, is_utf8-from_IsUtf8}
use Rattle.std.specs.Prelude.{ℤ, IsTrue, ◌↔◌, ◌&&◌, nat_le, option_map, option_and_then}
use Rattle.std.specs.Str.{is_utf8}
use Rattle.tql_spec.specs.Datum.{Datum, Text}
use Rattle.tql_value.specs.Points.{IsDay, IsMoment}
use Rattle.tql_value.specs.Views.{datum_of_view}
use Rattle.tql_value.specs.declared.value.View.{View}
use Rattle.tql_places.specs.Passed.{Passed, is_day, is_moment, text_passed, first_passed, values_passed, first_of}
use Rattle.tql_places.specs.declared.passed.First.{First}

pub is_day_test : (r : Bool) (d : ℤ) → (IsTrue r ↔ IsDay d) → r ≡ is_day d
is_day_test r d is = grind arith

pub is_moment_test : (r : Bool) (m : ℤ) → (IsTrue r ↔ IsMoment m) → r ≡ is_moment m
is_moment_test r m is = grind arith

-- ---- texts

le_true : (n m : ℕ) → n ≤ m → nat_le n m ≡ true
le_true n m le = grind (arith, nat_tests)

pub text_is : (n : ℕ) (rest front behind text : List ℕ) → n ≤ length rest → front ≡ take n rest → behind ≡ drop n rest
    → (text ≡ front) × IsUtf8 front → Some (Text text, behind) ≡ text_passed n rest
text_is n rest front behind text le e d u =
    let is : text ≡ take n rest = u.0 ∙ e in
    rw (is, d, le_true n (length rest) le, is_utf8-from_IsUtf8 (take n rest) (subst IsUtf8 e u.1)) refl

pub no_text : (n : ℕ) (rest front : List ℕ) → front ≡ take n rest → (IsUtf8 front → ⊥) → None ≡ text_passed n rest
no_text n rest front e never = by (nat_le n (length rest)) (is_utf8 (take n rest)) refl where
  by : (x y : Bool) → is_utf8 (take n rest) ≡ y
      → ◌≡◌ {A = Option Passed} None (if x && y then Some (Text (take n rest), drop n rest) else None)
  by x true q = absurd (never (subst IsUtf8 (sym e) (IsUtf8-from_is_utf8 (take n rest) q)))
  by true false q = refl
  by false false q = refl

-- ---- one value after another

no_first : (o : Option First) → ((f : First) → o ≡ Some f → ⊥) → first_of o ≡ None
no_first None never = refl
no_first (Some f) never = absurd (never f refl)

-- a value after others
one_before : (old : List Datum) (v : Datum) (o : Option (List Datum))
    → option_map (λ vs. old ++ vs) (option_map (λ vs. v ∷ vs) o) ≡ option_map (λ vs. (old ++ v ∷ []) ++ vs) o
one_before old v None = refl
one_before old v (Some vs) = ap Some (sym (append_assoc old (v ∷ []) vs))

pub none_more : (whole : Option (List Datum)) (old : List Datum) (n i : ℕ) (rest : List ℕ) (o : Option First) → i < n
    → whole ≡ option_map (λ vs. old ++ vs) (values_passed (n - i) rest) → first_of o ≡ first_passed rest
    → ((f : First) → o ≡ Some f → ⊥) → whole ≡ None
none_more whole old n i rest o lt h e never =
    let on : n - i ≡ suc (n - (i + 1)) = omega arith in
    let none : first_passed rest ≡ None = sym e ∙ no_first o never in
    h ∙ ap (λ k. option_map (λ vs. old ++ vs) (values_passed k rest)) on
    ∙ ap (λ f. option_map (λ vs. old ++ vs) (option_and_then
    (λ (p : Passed). option_map (λ vs. p.0 ∷ vs) (values_passed (n - (i + 1)) p.1)) f)) none

pub one_more : (whole : Option (List Datum)) (old : List Datum) (n i : ℕ) (rest after : List ℕ) (v : Datum) → i < n
    → whole ≡ option_map (λ vs. old ++ vs) (values_passed (n - i) rest) → Some (v, after) ≡ first_passed rest
    → whole ≡ option_map (λ vs. (old ++ v ∷ []) ++ vs) (values_passed (n - (i + 1)) after)
one_more whole old n i rest after v lt h e =
    let on : n - i ≡ suc (n - (i + 1)) = omega arith in
    h ∙ ap (λ k. option_map (λ vs. old ++ vs) (values_passed k rest)) on
    ∙ ap (λ f. option_map (λ vs. old ++ vs) (option_and_then
    (λ (p : Passed). option_map (λ vs. p.0 ∷ vs) (values_passed (n - (i + 1)) p.1)) f)) (sym e)
    ∙ one_before old v (values_passed (n - (i + 1)) after)

pub more_values : (whole : Option (List Datum)) (old new : List View) (x : View) (n i : ℕ) (rest after : List ℕ) → i < n
    → whole ≡ option_map (λ vs. map datum_of_view old ++ vs) (values_passed (n - i) rest)
    → Some (datum_of_view x, after) ≡ first_passed rest → new ≡ old ++ x ∷ []
    → whole ≡ option_map (λ vs. map datum_of_view new ++ vs) (values_passed (n - (i + 1)) after)
more_values whole old new x n i rest after lt h e pushed =
    one_more whole (map datum_of_view old) n i rest after (datum_of_view x) lt h e
    ∙ ap (λ xs. option_map (λ vs. xs ++ vs) (values_passed (n - (i + 1)) after))
    (sym (ap (map datum_of_view) pushed ∙ map_push datum_of_view old x))
