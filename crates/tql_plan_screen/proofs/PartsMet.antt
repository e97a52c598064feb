-- The parts of conjuncts: rows meet them exactly if they meet the conjuncts.
use Rattle.std.proofs.Common.{◌≡◌, ◌∙◌, refl, sym, ap, ℕ, suc, ◌==◌, Bool, true, false, ◌&&◌, cond, List, [], ◌∷◌}
use Rattle.std.proofs.Common.{length, arith}
use Rattle.std.specs.Prelude.{Option, Some, None}
use Rattle.std.specs.List.{list_all}
use Rattle.std.proofs.lemmas.Bool.{eq-eqb, eqb-false, eqb-true, ne_eqb}
use Rattle.std.proofs.lemmas.List.Folds.{list_all-append}
use Rattle.std.proofs.lemmas.List.Sums.{take_while-cons}
use Rattle.tql_spec.specs.Datum.{Row}
use Rattle.tql_spec.specs.Definition.{TableDef}
use Rattle.tql_spec.specs.Expression.{Cond, Compare, IsNull, Related, ContainsPoint, Not, And, Or, both, is_safe, judge}
use Rattle.tql_spec.specs.Truth.{Truth, False, Unknown, True, and}
use Rattle.tql_spec.proofs.Members.{by_bool}
use Rattle.tql_plan_access.specs.Access.{safe_part}
use Rattle.tql_plan_laws.specs.Conjuncts.{is_sure, meets}
use Rattle.tql_plan_screen.specs.Screens.{is_test, parts, parts_of}
use Rattle.tql_plan_screen.proofs.Booleans.{all_pass, and_swap, and_true}
use Rattle.tql_plan_screen.proofs.StoredColumns.{test_safe}

-- ---- one conjunct

and_sure : (o p : Option Truth) → is_sure (both and o p) ≡ (is_sure o && is_sure p)
and_sure None p = refl
and_sure (Some False) None = refl
and_sure (Some Unknown) None = refl
and_sure (Some True) None = refl
and_sure (Some False) (Some t) = refl
and_sure (Some Unknown) (Some False) = refl
and_sure (Some Unknown) (Some Unknown) = refl
and_sure (Some Unknown) (Some True) = refl
and_sure (Some True) (Some t) = refl

module _ (test : Cond → Bool) where
  -- all parts of an AND pass a test if those of its left side do, and its right side
  sides_pass : (c d : Cond) → list_all test (parts (And c d)) ≡ (list_all test (parts c) && test d)
  sides_pass c d =
      list_all-append test (parts c) (d ∷ []) ∙ ap (λ b. list_all test (parts c) && b) (and_true (test d))

  -- a test that an AND passes if both its sides do
  parts_pass : ((c d : Cond) → test (And c d) ≡ (test c && test d)) → (c : Cond)
      → list_all test (parts c) ≡ test c
  parts_pass f (And c d) =
      sides_pass c d ∙ ap (λ b. b && test d) (parts_pass f c) ∙ sym (f c d)
  parts_pass f (Compare s a b) = and_true (test (Compare s a b))
  parts_pass f (IsNull a) = and_true (test (IsNull a))
  parts_pass f (Related w a b c d) = and_true (test (Related w a b c d))
  parts_pass f (ContainsPoint a b c) = and_true (test (ContainsPoint a b c))
  parts_pass f (Not c) = and_true (test (Not c))
  parts_pass f (Or c d) = and_true (test (Or c d))

  -- the same for conjuncts
  all_parts_pass : ((c d : Cond) → test (And c d) ≡ (test c && test d)) → (conds : List Cond)
      → list_all test (parts_of conds) ≡ list_all test conds
  all_parts_pass f [] = refl
  all_parts_pass f (c ∷ cs) =
      list_all-append test (parts c) (parts_of cs) ∙ (λ i. parts_pass f c i && all_parts_pass f cs i)

-- rows meet the parts exactly if they meet the conjuncts
pub parts_met : (conds : List Cond) (row : Row) → meets (parts_of conds) row ≡ meets conds row
parts_met conds row =
    all_parts_pass (λ c. is_sure (judge [] row c)) (λ c d. and_sure (judge [] row c) (judge [] row d)) conds

-- the parts calculate nothing exactly if the conjuncts do not
pub parts_safe : (conds : List Cond) → list_all is_safe (parts_of conds) ≡ list_all is_safe conds
parts_safe conds = all_parts_pass is_safe (λ c d. refl) conds

-- ---- parts that are all tested

as_long : (a b : ℕ) → (suc a == suc b) ≡ (a == b)
as_long a b = by_bool (a == b)
    (λ h. eq-eqb (suc a) (suc b) (ap suc (eqb-true a b h)) ∙ sym h)
    (λ h. ne_eqb (suc a) (suc b) (λ e. eqb-false a b h (omega (arith, e))) ∙ sym h)

none_long : (n : ℕ) → (0 == suc n) ≡ false
none_long n = ne_eqb 0 (suc n) (λ e. omega (arith, e))

module _ (d : TableDef) where
  -- conjuncts whose parts are all tested calculate nothing
  pub tested_safe : (conds : List Cond) → list_all (is_test d) (parts_of conds) ≡ true → list_all is_safe conds ≡ true
  tested_safe conds h = sym (parts_safe conds) ∙ all_pass (is_test d) is_safe (test_safe d) (parts_of conds) h

  first_safe : (c : Cond) → list_all (is_test d) (parts c) ≡ true → is_safe c ≡ true
  first_safe c h = sym (parts_pass is_safe (λ a b. refl) c) ∙ all_pass (is_test d) is_safe (test_safe d) (parts c) h

  -- all parts are tested exactly if all conjuncts are in the safe part, and all its parts are tested
  pub whole_is : (conds : List Cond)
      → ((length (safe_part conds) == length conds) && list_all (is_test d) (parts_of (safe_part conds)))
      ≡ list_all (is_test d) (parts_of conds)
  whole_is [] = ap (λ b. b && true) (eq-eqb 0 0 refl)
  whole_is (c ∷ cs) = by_bool (is_safe c)
      (λ e. ap part (cut true e) ∙ first (whole_is cs))
      (λ e. ap part (cut false e) ∙ ap (λ b. b && true) (none_long (length cs)) ∙ sym (unsafe e))
    where
      all : List Cond → Bool
      all xs = list_all (is_test d) xs

      part : List Cond → Bool
      part xs = (length xs == suc (length cs)) && all (parts_of xs)

      cut : (b : Bool) → is_safe c ≡ b → safe_part (c ∷ cs) ≡ cond b (c ∷ safe_part cs) []
      cut b e = take_while-cons is_safe c cs ∙ ap (λ k. cond k (c ∷ safe_part cs) []) e

      first : ((length (safe_part cs) == length cs) && all (parts_of (safe_part cs))) ≡ all (parts_of cs)
          → part (c ∷ safe_part cs) ≡ all (parts_of (c ∷ cs))
      first h =
          (λ i. as_long (length (safe_part cs)) (length cs) i
          && list_all-append (is_test d) (parts c) (parts_of (safe_part cs)) i)
          ∙ and_swap (length (safe_part cs) == length cs) (all (parts c)) (all (parts_of (safe_part cs)))
          ∙ ap (λ b. all (parts c) && b) h
          ∙ sym (list_all-append (is_test d) (parts c) (parts_of cs))

      unsafe : is_safe c ≡ false → all (parts_of (c ∷ cs)) ≡ false
      unsafe e =
          list_all-append (is_test d) (parts c) (parts_of cs)
          ∙ ap (λ b. b && all (parts_of cs)) (by_bool (all (parts c))
          (λ h. absurd (let n : true ≡ false = sym (first_safe c h) ∙ e in cc)) (λ h. h))
