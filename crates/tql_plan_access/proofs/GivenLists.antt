-- The first list of columns that conjuncts give values.
use Rattle.std.proofs.Common.{◌≡◌, ap, refl, sym, subst, ◌∙◌, ℕ, ◌+◌, ◌<◌, Bool, true, false, cond, List, []}
use Rattle.std.proofs.Common.{◌∷◌, ◌++◌, map, drop, length, get_or, arith}
use Rattle.std.specs.Prelude.{◌&&◌, ◌||◌, not, nat_lt, Option, Some, None, is_some, option_map, slice_index_or}
use Rattle.std.specs.Option.{option_or}
use Rattle.std.specs.List.{find, list_all, list_any}
use Rattle.std.proofs.lemmas.List.{drop_more}
use Rattle.std.proofs.lemmas.List.Folds.{find-append}
use Rattle.std.proofs.lemmas.List.FromFn.{get_or-map-range_with_len}
use Rattle.std.proofs.lemmas.Bool.{and_from, and_parts}
use Rattle.std.proofs.lemmas.Bool.Decides.{nat_tests}
use Rattle.tql_spec.specs.Words.{with_front}
use Rattle.tql_spec.specs.Datum.{Datum}
use Rattle.tql_spec.specs.Definition.{Key, Reference, TableDef}
use Rattle.tql_spec.specs.Binding.{is_generated}
use Rattle.tql_spec.specs.Expression.{Cond}
use Rattle.tql_catalog.specs.Defined.{IsDefinition}
use Rattle.tql_catalog.specs.Rows.{are_assignable, numbers_repeat}
use Rattle.tql_catalog.specs.Sought.{reference_columns, sought_columns}
use Rattle.tql_plan_laws.specs.Constants.{tuple_in, value_in}
use Rattle.tql_plan_access.specs.Access.{are_given, are_marked, first_given, given_marks}

-- ---- all lists

-- lists that pass a test, appended to lists that pass it, all pass it
all_before : {A : Type 0} (p : List ℕ → Bool) (columns : A → List ℕ) (xs : List A) (ys : List (List ℕ))
    → list_all (λ x. p (columns x)) xs ≡ true → list_all p ys ≡ true → list_all p (map columns xs ++ ys) ≡ true
all_before p columns [] ys h k = k
all_before p columns (x ∷ xs) ys h k =
    let parts = and_parts (p (columns x)) (list_all (λ y. p (columns y)) xs) h in
    and_from (p (columns x)) (list_all p (map columns xs ++ ys)) parts.0 (all_before p columns xs ys parts.1 k)

all_listed : {A : Type 0} (p : List ℕ → Bool) (columns : A → List ℕ) (xs : List A)
    → list_all (λ x. p (columns x)) xs ≡ true → list_all p (map columns xs) ≡ true
all_listed p columns [] h = refl
all_listed p columns (x ∷ xs) h =
    let parts = and_parts (p (columns x)) (list_all (λ y. p (columns y)) xs) h in
    and_from (p (columns x)) (list_all p (map columns xs)) parts.0 (all_listed p columns xs parts.1)

-- the lists for lookups in a table name columns of the table, none of them generated
pub all_assignable : (d : TableDef) → IsDefinition d → list_all (are_assignable d) (sought_columns d) ≡ true
all_assignable d right =
    all_before (are_assignable d) (λ (k : Key). k.columns) d.keys (reference_columns d) right.keys
    (all_listed (are_assignable d) (λ (f : Reference). f.columns) d.references right.references)

-- mapping an option keeps whether it has a value
pub is_there : {A B : Type 0} (f : A → B) (o : Option A) → is_some o ≡ is_some (option_map f o)
is_there f None = refl
is_there f (Some x) = refl

-- ---- the first that passes a test

module _ (test : List ℕ → Bool) where
  -- a list at an index that passes the test is the first from there on
  pub first_here : {A B : Type 0} (f : B → A) (columns : A → List ℕ) (xs : List B) (i : ℕ) (x : B)
      → i < length xs → x ≡ get_or xs i x → test (columns (f x)) ≡ true
      → find test (map columns (map f (drop i xs))) ≡ Some (columns (f x))
  first_here f columns xs i x l e h =
      let rest = find test (map columns (map f (drop (i + 1) xs))) in
      ap (λ ys. find test (map columns (map f ys))) (drop_more xs i x l)
      ∙ ap (λ y. cond (test (columns (f y))) (Some (columns (f y))) rest) (sym e)
      ∙ ap (λ b. cond b (Some (columns (f x))) rest) h

  -- the first in two appended lists
  pub first_of_both : (xs ys : List (List ℕ)) → find test (xs ++ ys) ≡ option_or (find test xs) (find test ys)
  first_of_both xs ys = find-append test xs ys

  -- there is a first list exactly if some list passes
  pub any_given : (xs : List (List ℕ)) → is_some (find test xs) ≡ list_any test xs
  any_given [] = refl
  any_given (x ∷ xs) = either (test x) (any_given xs)
    where
      either : (b : Bool) → is_some (find test xs) ≡ list_any test xs
          → is_some (cond b (Some x) (find test xs)) ≡ (b || list_any test xs)
      either true h = refl
      either false h = h

  -- the first list passes the test, and any other test that all lists pass
  pub first_is : (p : List ℕ → Bool) (xs : List (List ℕ)) (columns : List ℕ) → list_all p xs ≡ true
      → find test xs ≡ Some columns → (p columns ≡ true) × (test columns ≡ true)
  first_is p [] columns h e = absurd (cc)
  first_is p (x ∷ xs) columns h e =
      let parts = and_parts (p x) (list_all p xs) h in
      either (test x) refl parts.0 (first_is p xs columns parts.1) e
    where
      either : (b : Bool) → test x ≡ b → p x ≡ true
          → (find test xs ≡ Some columns → (p columns ≡ true) × (test columns ≡ true))
          → cond b (Some x) (find test xs) ≡ Some columns
          → (p columns ≡ true) × (test columns ≡ true)
      either true g here later e =
          let told : Some x ≡ Some columns = e in
          let same : x ≡ columns = cc in
          (subst (λ is. p is ≡ true) same here, subst (λ is. test is ≡ true) same g)
      either false g here later e = later e

  -- two tests find the same list if they agree on every list that passes a third test, and all lists pass that
  pub found_same : (other p : List ℕ → Bool) (xs : List (List ℕ))
      → ((is : List ℕ) → p is ≡ true → test is ≡ other is) → list_all p xs ≡ true → find test xs ≡ find other xs
  found_same other p [] same h = refl
  found_same other p (x ∷ xs) same h =
      let parts = and_parts (p x) (list_all p xs) h in
      (λ i. cond (same x parts.0 i) (Some x) (found_same other p xs same parts.1 i))

module _ (conds : List Cond) where
  -- ---- marked columns

  marked_one : (n i : ℕ) → nat_lt i n ≡ true
      → slice_index_or (given_marks conds n) i false ≡ is_some (value_in i conds)
  marked_one n i h =
      let l : i < n = grind (arith, nat_tests) in
      get_or-map-range_with_len (λ k. is_some (value_in k conds)) 0 n i i false l (omega arith)

  with_given : (o : Option Datum) (os : Option (List Datum)) → is_some (with_front o os) ≡ is_some o && is_some os
  with_given None os = refl
  with_given (Some v) None = refl
  with_given (Some v) (Some vs) = refl

  -- columns of the table are all marked exactly if they are all given values
  marked_given : (n : ℕ) (columns : List ℕ) → list_all (λ i. nat_lt i n) columns ≡ true
      → are_marked (given_marks conds n) columns ≡ are_given conds columns
  marked_given n [] h = refl
  marked_given n (i ∷ is) h =
      let parts = and_parts (nat_lt i n) (list_all (λ k. nat_lt k n) is) h in
      (λ k. marked_one n i parts.0 k && marked_given n is parts.1 k)
      ∙ sym (with_given (value_in i conds) (tuple_in conds is))

  -- assignable columns have numbers below the number of columns
  within : (d : TableDef) (columns : List ℕ) → list_all (λ i. nat_lt i (length d.columns) && not (is_generated d i))
      columns ≡ true → list_all (λ i. nat_lt i (length d.columns)) columns ≡ true
  within d [] h = refl
  within d (i ∷ is) h =
      let parts = and_parts (nat_lt i (length d.columns) && not (is_generated d i))
      (list_all (λ k. nat_lt k (length d.columns) && not (is_generated d k)) is) h in
      and_from (nat_lt i (length d.columns)) (list_all (λ k. nat_lt k (length d.columns)) is)
      (and_parts (nat_lt i (length d.columns)) (not (is_generated d i)) parts.0).0 (within d is parts.1)

  -- the first list of a table whose columns are all marked is the first whose columns are all given values
  pub marked_first : (d : TableDef) → IsDefinition d
      → find (are_marked (given_marks conds (length d.columns))) (sought_columns d)
      ≡ first_given conds (sought_columns d)
  marked_first d right =
      found_same (are_marked (given_marks conds (length d.columns))) (are_given conds) (are_assignable d)
      (sought_columns d)
      (λ is h. marked_given (length d.columns) is
      (within d is
      (and_parts (list_all (λ i. nat_lt i (length d.columns) && not (is_generated d i)) is) (not (numbers_repeat is))
      h).0))
      (all_assignable d right)

  -- ---- the first list that is given values

  -- the columns of the first list that is given values are assignable
  pub assignable_first : (d : TableDef) → IsDefinition d → (columns : List ℕ)
      → first_given conds (sought_columns d) ≡ Some columns → are_assignable d columns ≡ true
  assignable_first d right columns e =
      (first_is (are_given conds) (are_assignable d) (sought_columns d) columns (all_assignable d right) e).0

  pub given_first : (d : TableDef) → IsDefinition d → (columns : List ℕ)
      → first_given conds (sought_columns d) ≡ Some columns → are_given conds columns ≡ true
  given_first d right columns e =
      (first_is (are_given conds) (are_assignable d) (sought_columns d) columns (all_assignable d right) e).1
