-- Filling a text from place to place.
use Rattle.std.proofs.Common.{◌≡◌, ◌≤◌, ℕ, suc, ◌+◌, Bool, true, false, List, [], ◌∷◌, ◌++◌, length, take}
use Rattle.std.proofs.Common.{drop, Option, Some, None, refl, ap, sym, ◌∙◌, arith, append_assoc}
use Rattle.std.proofs.Common.{◌-◌, length-drop, drop-drop}
use Rattle.std.proofs.lemmas.Bool.{eqb-true}
use Rattle.std.proofs.lemmas.List.{take_all}
use Rattle.std.specs.Prelude.{◌==◌, ◌&&◌}
use Rattle.tql_spec.specs.Script.{ScanState, Outside, AfterDash, InText, InName, InComment, state_after, can_end}
use Rattle.tql_spec.specs.Datum.{Datum}
use Rattle.tql_splitter.specs.Cutting.{one_more}
use Rattle.tql_places.specs.Places.{is_place, places_from, places, spaced, filled_from, filled, first_from, GoesOn}

-- ---- the first place

-- a number of bytes after others
abbrev pub plus : ℕ → Option ℕ → Option ℕ
plus i None = None
plus i (Some n) = Some (i + n)

-- ---- counting places

-- a count and the places that are left
abbrev pub Counted : (count i : ℕ) → ScanState → List ℕ → Type 0
Counted count i p bs = (count ≤ i) × (places bs ≡ count + places_from p (drop i bs))

-- ---- a text up to its first place

first_true : (x y : Bool) → (x && y) ≡ true → x ≡ true
first_true true y e = refl
first_true false y e = absurd cc

second_true : (x y : Bool) → (x && y) ≡ true → y ≡ true
second_true true y e = e
second_true false y e = absurd cc

outside_again : (p : ScanState) → can_end p ≡ true → state_after p 63 ≡ Outside
outside_again Outside e = refl
outside_again AfterDash e = refl
outside_again InText e = absurd cc
outside_again InName e = absurd cc
outside_again InComment e = absurd cc

outside_behind : (p : ScanState) (b : ℕ) → is_place p b ≡ true → state_after p b ≡ Outside
outside_behind p b e = let same : b ≡ 63 =
    eqb-true b 63 (first_true (b == 63) (can_end p) e) in ap (state_after p) same
    ∙ outside_again p (second_true (b == 63) (can_end p) e)

some_is : (x y : ℕ) → Option.Some x ≡ Option.Some y → x ≡ y
some_is x y e = cc

some_none : (n : ℕ) → Option.Some n ≡ Option.None → ⊥
some_none n e = cc

more_is : (o : Option ℕ) (n : ℕ) → one_more o ≡ Some n → (m : ℕ) × (o ≡ Some m) × (n ≡ suc m)
more_is None n e = absurd cc
more_is (Some m) n e = (m, refl, cc)

none_is : (o : Option ℕ) → one_more o ≡ None → o ≡ None
none_is None e = refl
none_is (Some m) e = absurd cc

-- a text without places stays as it is
none_filled : (p : ScanState) (bs : List ℕ) (vs : List Datum) → first_from p bs ≡ None → filled_from p bs vs ≡ bs
none_filled p [] vs e = refl
none_filled p (b ∷ bs) [] e = refl
none_filled p (b ∷ bs) (v ∷ vs) e = by (is_place p b) refl (none_filled (state_after p b) bs (v ∷ vs)) where
  by : (t : Bool) → is_place p b ≡ t
      → (first_from (state_after p b) bs ≡ None → filled_from (state_after p b) bs (v ∷ vs) ≡ bs)
      → filled_from p (b ∷ bs) (v ∷ vs) ≡ b ∷ bs
  by true q rest = absurd (some_none 0 (rw q at e))
  by false q rest = rw (q, rest (none_is (first_from (state_after p b) bs) (rw q at e))) refl

-- a text with a place
one_filled : (p : ScanState) (bs : List ℕ) (v : Datum) (vs : List Datum) (n : ℕ) → first_from p bs ≡ Some n
    → filled_from p bs (v ∷ vs) ≡ take n bs ++ spaced v ++ filled (drop (suc n) bs) vs
one_filled p [] v vs n e = absurd cc
one_filled p (b ∷ bs) v vs n e = by (is_place p b) refl (one_filled (state_after p b) bs v vs) where
  by : (t : Bool) → is_place p b ≡ t
      → ((k : ℕ) → first_from (state_after p b) bs ≡ Some k
      → filled_from (state_after p b) bs (v ∷ vs) ≡ take k bs ++ spaced v ++ filled (drop (suc k) bs) vs)
      → filled_from p (b ∷ bs) (v ∷ vs) ≡ take n (b ∷ bs) ++ spaced v ++ filled (drop (suc n) (b ∷ bs)) vs
  by true q rest = let z : 0 ≡ n = some_is 0 n (rw q at e) in rw (q, outside_behind p b q, ← z) refl
  by false q rest = let k = more_is (first_from (state_after p b) bs) n (rw q at e) in rw (q, k.2, rest k.0 k.1) refl

pub goes_none : (text old : List ℕ) (v : Datum) → first_from Outside text ≡ None → GoesOn text v old old text
goes_none text old v e vs =
    ap (λ z. old ++ z) (none_filled Outside text (v ∷ vs) e ∙ sym (none_filled Outside text vs e))

pub goes_one : (text old new rest : List ℕ) (v : Datum) (n : ℕ) → first_from Outside text ≡ Some n
    → new ≡ (old ++ take n text) ++ spaced v → rest ≡ drop (suc n) text → GoesOn text v old new rest
goes_one text old new rest v n e is left vs =
    let more = filled (drop (suc n) text) vs in
    rw (is, left)
    (ap (λ z. old ++ z) (one_filled Outside text v vs n e)
    ∙ sym (append_assoc old (take n text ++ spaced v) more)
    ∙ ap (λ z. z ++ more) (sym (append_assoc old (take n text) (spaced v))))

-- without values a text stays as it is
pub no_values : (text : List ℕ) → filled text [] ≡ text
no_values [] = refl
no_values (b ∷ bs) = refl

-- ---- the steps of the code

no_place : (o : Option ℕ) → ((n : ℕ) → o ≡ Some n → ⊥) → o ≡ None
no_place None never = refl
no_place (Some n) never = absurd (never n refl)

pub goes_past : (text old : List ℕ) (v : Datum) (o : Option ℕ) → o ≡ first_from Outside text
    → ((n : ℕ) → o ≡ Some n → ⊥) → GoesOn text v old old text
goes_past text old v o e never = goes_none text old v (sym e ∙ no_place o never)

pub goes_place : (text old mid new before behind : List ℕ) (v : Datum) (n : ℕ) → Some n ≡ first_from Outside text
    → before ≡ take n text → behind ≡ drop n text → mid ≡ old ++ before → new ≡ mid ++ spaced v
    → GoesOn text v old new (take (length behind - 1) (drop 1 behind))
goes_place text old mid new before behind v n e front back one two =
    let on : n + 1 ≡ suc n = omega arith in
    let all = take_all (length behind - 1) (drop 1 behind) (omega (arith, length-drop 1 behind)) in
    goes_one text old new (take (length behind - 1) (drop 1 behind)) v n (sym e)
    (two ∙ ap (λ z. z ++ spaced v) (one ∙ ap (λ z. old ++ z) front))
    (all ∙ ap (drop 1) back ∙ drop-drop 1 n text ∙ ap (λ k. drop k text) on)

pub fills_all : (whole old new rest : List ℕ) (vs : List Datum) → vs ≡ []
    → whole ≡ old ++ filled rest vs → new ≡ old ++ rest → new ≡ whole
fills_all whole old new rest vs none h e = e ∙ sym (h ∙ ap (λ z. old ++ filled rest z) none
    ∙ ap (λ z. old ++ z) (no_values rest))
