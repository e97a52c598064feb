-- What a screen gains.
use Rattle.std.proofs.Common.{◌≡◌, ◌∙◌, refl, sym, ap, subst, ℕ, ◌+◌, Bool, true, false, ◌&&◌, cond, List, [], ◌∷◌}
use Rattle.std.proofs.Common.{◌++◌, append_assoc, append-nil, length, map, take, get_or, ◌<◌, arith}
use Rattle.std.specs.Prelude.{filter, Result, Ok, Err, OnOk}
use Rattle.std.specs.List.{list_all}
use Rattle.std.proofs.lemmas.List.{length-append, map-append, take_more}
use Rattle.std.proofs.lemmas.List.Concat.{flat_map-append}
use Rattle.std.proofs.lemmas.List.Elements.{filter-append}
use Rattle.std.proofs.lemmas.List.Folds.{list_all-append}
use Rattle.tql_spec.specs.Datum.{Row}
use Rattle.tql_spec.specs.Definition.{TableDef, with_generated}
use Rattle.tql_spec.specs.Expression.{Cond, judge}
use Rattle.tql_plan_laws.specs.Conjuncts.{is_sure, meets}
use Rattle.tql_plan_screen.specs.Coded.{Admits, Gains, IsTestFor}
use Rattle.tql_plan_screen.specs.Screens.{AreTestsOf, Screening, Test, is_test, parts, parts_of}
use Rattle.tql_plan_screen.proofs.Booleans.{and_back, and_three, and_true}

module _ (d : TableDef) where
  -- the conditions of a list that are tests
  abbrev tests_in : List Cond → List Cond
  tests_in conds = filter (is_test d) conds

  meets-append : (xs ys : List Cond) (row : Row) → meets (xs ++ ys) row ≡ (meets xs row && meets ys row)
  meets-append xs ys row = list_all-append (λ c. is_sure (judge [] row c)) xs ys

  -- nothing is gained
  pub gains_none : (s : Screening) → Gains d [] s s
  gains_none s = record {
    tests = λ before h. subst (λ cs. AreTestsOf d cs s.tests) (sym (append-nil before)) h;
    whole = sym (and_true s.whole);
  }

  -- one gain after another
  pub gains_both : (xs ys : List Cond) (r s t : Screening) → Gains d xs r s → Gains d ys s t → Gains d (xs ++ ys) r t
  gains_both xs ys r s t g h = record {
    tests = λ before a. subst (λ cs. AreTestsOf d cs t.tests)
        (append_assoc before (tests_in xs) (tests_in ys)
        ∙ ap (λ cs. before ++ cs) (sym (filter-append (is_test d) xs ys)))
        (h.tests (before ++ tests_in xs) (g.tests before a));
    whole = h.whole ∙ ap (λ b. b && list_all (is_test d) ys) g.whole
        ∙ and_three r.whole (list_all (is_test d) xs) (list_all (is_test d) ys)
        ∙ ap (λ b. r.whole && b) (sym (list_all-append (is_test d) xs ys));
  }

  -- the order of conditions does not matter
  exchanged : (before xs ys : List Cond) (tests : List Test) → AreTestsOf d (before ++ tests_in (ys ++ xs)) tests
      → AreTestsOf d (before ++ tests_in (xs ++ ys)) tests
  exchanged before xs ys tests a = record {
    each = λ cells start end long.
        let row = with_generated d.system cells start end in
        a.each cells start end long
        ∙ meets-append before (tests_in (ys ++ xs)) row
        ∙ ap (λ b. meets before row && b) (same row)
        ∙ sym (meets-append before (tests_in (xs ++ ys)) row);
    count = a.count ∙ counted;
  }
    where
      same : (row : Row) → meets (tests_in (ys ++ xs)) row ≡ meets (tests_in (xs ++ ys)) row
      same row =
          ap (λ cs. meets cs row) (filter-append (is_test d) ys xs)
          ∙ meets-append (tests_in ys) (tests_in xs) row
          ∙ and_back (meets (tests_in ys) row) (meets (tests_in xs) row)
          ∙ sym (meets-append (tests_in xs) (tests_in ys) row)
          ∙ ap (λ cs. meets cs row) (sym (filter-append (is_test d) xs ys))

      counted : length (before ++ tests_in (ys ++ xs)) ≡ length (before ++ tests_in (xs ++ ys))
      counted =
          let a = length-append before (tests_in (ys ++ xs)) in
          let b = length-append before (tests_in (xs ++ ys)) in
          let e = ap length (filter-append (is_test d) ys xs) ∙ length-append (tests_in ys) (tests_in xs) in
          let f = ap length (filter-append (is_test d) xs ys) ∙ length-append (tests_in xs) (tests_in ys) in
          omega (arith, a, b, e, f)

  pub gains_back : (xs ys : List Cond) (s t : Screening) → Gains d (ys ++ xs) s t → Gains d (xs ++ ys) s t
  gains_back xs ys s t g = record {
    tests = λ before a. exchanged before xs ys t.tests (g.tests before a);
    whole = g.whole ∙ ap (λ b. s.whole && b)
        (list_all-append (is_test d) ys xs ∙ and_back (list_all (is_test d) ys) (list_all (is_test d) xs)
        ∙ sym (list_all-append (is_test d) xs ys));
  }

  -- ---- one condition

  -- a condition that is a test
  one_kept : (c : Cond) (b : Bool) → is_test d c ≡ b → tests_in (c ∷ []) ≡ cond b (c ∷ []) []
  one_kept c b e = ap (λ k. cond k (c ∷ []) []) e

  pub gains_test : (c : Cond) (t : Test) (old new : Screening) → IsTestFor d c t → Admits t old.tests new.tests
      → new.whole ≡ old.whole → Gains d (c ∷ []) old new
  gains_test c t old new f a w = record {
    tests = λ before h. subst (λ cs. AreTestsOf d (before ++ cs) new.tests) (sym (one_kept c true f.is))
        (record {
          each = λ cells start end long.
              let row = with_generated d.system cells start end in
              a.both cells
              ∙ (λ i. h.each cells start end long i && f.means cells start end long i)
              ∙ ap (λ b. meets before row && b) (sym (and_true (is_sure (judge [] row c))))
              ∙ sym (meets-append before (c ∷ []) row);
          count =
              let e = a.count in let k = h.count in let l = length-append before (c ∷ []) in omega (arith, e, k, l);
        });
    whole = w ∙ sym (ap (λ b. old.whole && (b && true)) f.is ∙ and_true old.whole);
  }

  -- a condition that is none
  pub gains_open : (c : Cond) (old new : Screening) → is_test d c ≡ false → new.tests ≡ old.tests
      → new.whole ≡ false → Gains d (c ∷ []) old new
  gains_open c old new f same w = record {
    tests = λ before h. subst (λ cs. AreTestsOf d (before ++ cs) new.tests) (sym (one_kept c false f))
        (subst (λ cs. AreTestsOf d cs new.tests) (sym (append-nil before))
        (subst (AreTestsOf d before) (sym same) h));
    whole = w ∙ sym (ap (λ b. old.whole && (b && true)) f ∙ and_back old.whole false);
  }

  -- ---- the parts of conjuncts

  -- the right side of an AND, and then what is left of it
  pub gains_side : (c e : Cond) (r s t : Screening) → Gains d (e ∷ []) r s → Gains d (parts c) s t
      → Gains d (parts c ++ e ∷ []) r t
  gains_side c e r s t g h = gains_back (parts c) (e ∷ []) r t (gains_both (e ∷ []) (parts c) r s t g h)

  -- one more conjunct
  pub gains_more : {A : Type 0} (f : A → Cond) (xs : List A) (i : ℕ) (x : A) (r s t : Screening) → i < length xs
      → x ≡ get_or xs i x → Gains d (parts_of (map f (take i xs))) r s → Gains d (parts (f x)) s t
      → Gains d (parts_of (map f (take (i + 1) xs))) r t
  gains_more {A} f xs i x r s t l e g h =
      subst (λ cs. Gains d cs r t) (sym next)
      (gains_both (parts_of (map f (take i xs))) (parts (f x)) r s t g h)
    where
      next : parts_of (map f (take (i + 1) xs)) ≡ parts_of (map f (take i xs)) ++ parts (f x)
      next =
          ap (λ (ys : List A). parts_of (map f ys)) (take_more xs i x l ∙ ap (λ y. take i xs ++ y ∷ []) (sym e))
          ∙ ap parts_of (map-append f (take i xs) (x ∷ []))
          ∙ flat_map-append parts (map f (take i xs)) (f x ∷ [])
          ∙ ap (λ cs. parts_of (map f (take i xs)) ++ cs) (append-nil (parts (f x)))

-- the tests of the screen that admits all rows
pub no_tests : (d : TableDef) → AreTestsOf d [] []
no_tests d = record { each = λ cells start end long. refl; count = refl }

-- what follows from a success
pub on_ok : {A E : Type 0} (r : Result A E) (P Q : Type 0) → (P → Q) → OnOk r P → OnOk r Q
on_ok (Ok a) P Q f h = f h
on_ok (Err e) P Q f h = h

pub on_both : {A E : Type 0} (r : Result A E) (P Q R : Type 0) → (P → Q → R) → OnOk r P → OnOk r Q → OnOk r R
on_both (Ok a) P Q R f h k = f h k
on_both (Err e) P Q R f h k = h
