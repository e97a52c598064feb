-- The stored columns of a table, and the conditions that test one.
use Rattle.std.proofs.Common.{◌≡◌, ◌∙◌, refl, sym, ap, subst, ℕ, zero, suc, ◌+◌, ◌<◌, ◌≤◌, Bool, true, false, ◌&&◌}
use Rattle.std.proofs.Common.{cond}
use Rattle.std.proofs.Common.{◌∷◌, length, arith, ⊎_elim, unwrap_or}
use Rattle.std.specs.Prelude.{◌||◌, filter, nat_lt, not, Some, None, option_map}
use Rattle.std.specs.List.{list_any, range_with_len}
use Rattle.std.proofs.lemmas.Bool.{and_parts, cases_eq, not-true}
use Rattle.std.proofs.lemmas.Bool.Decides.{nat_tests}
use Rattle.tql_spec.specs.Binding.{all_assignable, is_generated}
use Rattle.tql_spec.specs.Definition.{TableDef}
use Rattle.tql_spec.specs.Expression.{Cond, is_safe}
use Rattle.tql_spec.proofs.Members.{by_bool}
use Rattle.tql_plan_access.specs.Choices.{is_choice}
use Rattle.tql_plan_screen.specs.Coded.{chosen_column, column_of_test, compared_column}
use Rattle.tql_plan_screen.specs.Screens.{Test, comparison_in, is_compared, is_test}
use Rattle.tql_plan_screen.proofs.Booleans.{any_either, none_pass, or_false, or_left, or_right}
use Rattle.tql_plan_screen.proofs.ChoicesMet.{choice_safe, chosen_there}
use Rattle.tql_plan_screen.proofs.Comparisons.{compared_safe, compared_there}

-- ---- numbers in a range

module _ (q p : ℕ → Bool) where
  kept : (start n : ℕ) (b : Bool) → q start ≡ b
      → list_any p (filter q (range_with_len start (suc n)))
      ≡ list_any p (cond b (start ∷ filter q (range_with_len (start + 1) n)) (filter q (range_with_len (start + 1) n)))
  kept start n b e =
      ap (λ b. list_any p
      (cond b (start ∷ filter q (range_with_len (start + 1) n)) (filter q (range_with_len (start + 1) n)))) e

  -- a number of the range that both tests pass
  some_kept : (start n i : ℕ) → start ≤ i → i < start + n → q i ≡ true → p i ≡ true
      → list_any p (filter q (range_with_len start n)) ≡ true
  some_kept start zero i from to h k = absurd (omega (arith, from, to))
  some_kept start (suc n) i from to h k = ⊎_elim
      (λ (e : start ≡ i). kept start n true (ap q e ∙ h)
      ∙ or_left (p start) (list_any p (filter q (range_with_len (start + 1) n))) (ap p e ∙ k))
      (λ (e : start ≡ i → ⊥).
      let later : list_any p (filter q (range_with_len (start + 1) n)) ≡ true =
      some_kept (start + 1) n i (after from e) (omega (arith, to)) h k in
      by_bool (q start) (λ b. kept start n true b
      ∙ or_right (p start) (list_any p (filter q (range_with_len (start + 1) n))) later)
      (λ b. kept start n false b ∙ later))
      (cases_eq start i)
    where
      after : start ≤ i → (start ≡ i → ⊥) → start + 1 ≤ i
      after a b = grind (arith, a, b)

  -- none is left if the second test fails whatever passes the first
  none_kept : (start n : ℕ) → ((i : ℕ) → i < start + n → q i ≡ true → p i ≡ false)
      → list_any p (filter q (range_with_len start n)) ≡ false
  none_kept start zero f = refl
  none_kept start (suc n) f =
      let later : list_any p (filter q (range_with_len (start + 1) n)) ≡ false =
      none_kept (start + 1) n (λ i l h. f i (omega (arith, l)) h) in
      by_bool (q start) (λ b. kept start n true b
      ∙ or_false (p start) (list_any p (filter q (range_with_len (start + 1) n))) (f start (omega arith) b) later)
      (λ b. kept start n false b ∙ later)

-- ---- the stored columns

module _ (d : TableDef) (p : ℕ → Bool) where
  pub some_stored : (i : ℕ) → i < length d.columns → is_generated d i ≡ false → p i ≡ true
      → list_any p (all_assignable d) ≡ true
  some_stored i l h k =
      some_kept (λ j. not (is_generated d j)) p 0 (length d.columns) i (omega arith) (omega (arith, l)) (ap not h) k

  pub none_stored : ((i : ℕ) → i < length d.columns → is_generated d i ≡ false → p i ≡ false)
      → list_any p (all_assignable d) ≡ false
  none_stored f =
      none_kept (λ j. not (is_generated d j)) p 0 (length d.columns)
      (λ i l h. f i (omega (arith, l)) (not-true (is_generated d i) h))

-- whether a column is stored
abbrev pub is_stored : TableDef → ℕ → Bool
is_stored d i = nat_lt i (length d.columns) && not (is_generated d i)

pub stored_so : (d : TableDef) (i : ℕ) → i < length d.columns → is_generated d i ≡ false → is_stored d i ≡ true
stored_so d i l h = (λ k. within k && not (h k))
  where
    within : nat_lt i (length d.columns) ≡ true
    within = grind (arith, nat_tests, l)

pub stored_parts : (d : TableDef) (i : ℕ) → is_stored d i ≡ true
    → (i < length d.columns) × (is_generated d i ≡ false)
stored_parts d i h =
    let p = and_parts (nat_lt i (length d.columns)) (not (is_generated d i)) h in
    (grind (arith, nat_tests, p.0), not-true (is_generated d i) p.1)

-- ---- conditions that test one

-- a comparison of a stored column is a test
pub compared_test_is : (d : TableDef) (c : Cond) (i : ℕ) → i < length d.columns → is_generated d i ≡ false
    → is_compared i c ≡ true → is_test d c ≡ true
compared_test_is d c i l h k =
    some_stored d (λ j. is_compared j c || is_choice j c) i l h (or_left (is_compared i c) (is_choice i c) k)

-- a choice of a stored column is one
pub choice_test_is : (d : TableDef) (c : Cond) (i : ℕ) → i < length d.columns → is_generated d i ≡ false
    → is_choice i c ≡ true → is_test d c ≡ true
choice_test_is d c i l h k =
    some_stored d (λ j. is_compared j c || is_choice j c) i l h (or_right (is_compared i c) (is_choice i c) k)

-- no stored column is compared if the compared column is not stored
pub none_compared : (d : TableDef) (c : Cond)
    → ((i : ℕ) → compared_column c ≡ Some i → is_stored d i ≡ false)
    → list_any (λ i. is_compared i c) (all_assignable d) ≡ false
none_compared d c f = none_stored d (λ i. is_compared i c) (λ i l h. by_bool (is_compared i c)
    (λ k. absurd (let n : true ≡ false = sym (stored_so d i l h) ∙ f i (compared_there i c k) in cc)) (λ k. k))

same_number : (i j : ℕ) → Some i ≡ Some j → i ≡ j
same_number i j e = ap (λ o. unwrap_or o i) e

-- the same where no comparison is found
pub none_found : (d : TableDef) (c : Cond) → None ≡ comparison_in c
    → list_any (λ i. is_compared i c) (all_assignable d) ≡ false
none_found d c h = none_compared d c
    (λ i e. absurd (let n : None ≡ Some i = ap (option_map column_of_test) h ∙ e in cc))

-- or the column of the one that is found is not stored
pub found_elsewhere : (d : TableDef) (c : Cond) (t : Test) → Some t ≡ comparison_in c
    → is_stored d (column_of_test t) ≡ false → list_any (λ i. is_compared i c) (all_assignable d) ≡ false
found_elsewhere d c t h k = none_compared d c
    (λ i e. subst (λ j. is_stored d j ≡ false)
    (same_number (column_of_test t) i (ap (option_map column_of_test) h ∙ e)) k)

-- no stored column is chosen if none is compared, and none is the chosen column
pub none_chosen : (d : TableDef) (c : Cond)
    → ((i : ℕ) → chosen_column c ≡ Some i → (is_stored d i && is_choice i c) ≡ false)
    → list_any (λ i. is_compared i c) (all_assignable d) ≡ false
    → list_any (λ i. is_choice i c) (all_assignable d) ≡ false
none_chosen d c f none = none_stored d (λ i. is_choice i c) (λ i l h. by_bool (is_choice i c)
    (λ k. absurd (⊎_elim
    (λ e. let n : true ≡ false = sym (λ j. stored_so d i l h j && k j) ∙ f i e in cc)
    (λ e. let n : true ≡ false = sym (some_stored d (λ j. is_compared j c) i l h e) ∙ none in cc)
    (chosen_there i c k))) (λ k. k))

-- the same where there is no such column
pub none_to_choose : (d : TableDef) (c : Cond) → None ≡ chosen_column c
    → list_any (λ i. is_compared i c) (all_assignable d) ≡ false
    → list_any (λ i. is_choice i c) (all_assignable d) ≡ false
none_to_choose d c h = none_chosen d c (λ i e. absurd (let n : None ≡ Some i = h ∙ e in cc))

-- or it is not stored, or not chosen
pub chosen_elsewhere : (d : TableDef) (c : Cond) (k : ℕ) → Some k ≡ chosen_column c
    → (is_stored d k && is_choice k c) ≡ false
    → list_any (λ i. is_compared i c) (all_assignable d) ≡ false
    → list_any (λ i. is_choice i c) (all_assignable d) ≡ false
chosen_elsewhere d c k h n = none_chosen d c
    (λ i e. subst (λ j. (is_stored d j && is_choice j c) ≡ false) (same_number k i (h ∙ e)) n)

-- a condition is no test if no stored column is compared or chosen
pub no_test : (d : TableDef) (c : Cond) → list_any (λ i. is_compared i c) (all_assignable d) ≡ false
    → list_any (λ i. is_choice i c) (all_assignable d) ≡ false → is_test d c ≡ false
no_test d c h k =
    any_either (λ i. is_compared i c) (λ i. is_choice i c) (all_assignable d)
    ∙ or_false (list_any (λ i. is_compared i c) (all_assignable d)) (list_any (λ i. is_choice i c) (all_assignable d))
    h k

-- a test calculates nothing
pub test_safe : (d : TableDef) (c : Cond) → is_test d c ≡ true → is_safe c ≡ true
test_safe d c h = by_bool (is_safe c) (λ k. k)
    (λ k. absurd (let n : true ≡ false = sym h
    ∙ none_pass (λ i. is_compared i c || is_choice i c) (λ i. or_false (is_compared i c) (is_choice i c)
    (by_bool (is_compared i c) (λ e. absurd (let m : true ≡ false = sym (compared_safe i c e) ∙ k in cc)) (λ e. e))
    (by_bool (is_choice i c) (λ e. absurd (let m : true ≡ false = sym (choice_safe i c e) ∙ k in cc)) (λ e. e)))
    (all_assignable d) in cc))
