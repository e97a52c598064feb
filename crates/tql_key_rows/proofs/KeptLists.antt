-- Ids paired with the rows that replace theirs, and lists of distinct ids.
use Rattle.std.proofs.Common.{◌≡◌, ◌≤◌, ◌<◌, refl, sym, ap, ◌∙◌, ℕ, zero, suc, ◌+◌, Bool, true, false, List, [], ◌∷◌}
use Rattle.std.proofs.Common.{length, arith, nat_eq, nat_lt, get_or, subst, add-one}
use Rattle.std.specs.Prelude.{◌&&◌, not, zip, ℤ, Option}
use Rattle.std.specs.List.{list_all, IsAllAdjacentAnswer}
use Rattle.std.proofs.lemmas.Bool.Decides.{nat_tests}
use Rattle.tql_spec.specs.Bag.{SameBag}
use Rattle.tql_spec.specs.Datum.{Row}
use Rattle.tql_spec.specs.Definition.{TableDef, Stamped}
use Rattle.tql_spec.proofs.Bags.{same-sym}
use Rattle.tql_points.proofs.Pairs.{pairs_by_bag}
use Rattle.tql_key_rows.specs.Asked.{new_rows}
use Rattle.tql_key_rows.specs.Keeping.{are_kept, is_kept}
use Rattle.tql_key_rows.specs.Rising.{AreRising, are_distinct}
use Rattle.tql_store.specs.StoreModel.{is_among}
use Rattle.tql_key_rows.proofs.Bools.{same_bool}
use Rattle.tql_key_rows.proofs.Listed.{some_is}
use Rattle.tql_key_rows.proofs.Wheres.{any_bag}
use Rattle.tql_key_rows.proofs.Stepping.{new_row}

-- each id with the row that replaces its row
pub kept_zipped : (d : TableDef) (columns : List ℕ) (by_period : Bool) (named : ℕ → Option Stamped) (m : ℤ)
    (ids : List ℕ) (rows : List Row) → length ids ≡ length rows
    → list_all (λ (x : ℕ × Row). is_kept d columns by_period (named x.0) (new_row d m x.1)) (zip ids rows)
    ≡ are_kept d columns by_period named ids (new_rows d m rows)
kept_zipped d columns by_period named m [] [] n = refl
kept_zipped d columns by_period named m [] (v ∷ rows) n = absurd (omega arith)
kept_zipped d columns by_period named m (id ∷ ids) [] n = absurd (omega arith)
kept_zipped d columns by_period named m (id ∷ ids) (v ∷ rows) n =
    ap (λ b. is_kept d columns by_period (named id) (new_row d m v) && b)
    (kept_zipped d columns by_period named m ids rows (omega arith))

no : (b : Bool) → b && false ≡ false
no true = refl
no false = refl

-- if the counts differ, the rows are not kept
pub not_one_each : (d : TableDef) (columns : List ℕ) (by_period : Bool) (named : ℕ → Option Stamped) (m : ℤ)
    (ids : List ℕ) (rows : List Row) → (length ids ≡ length rows → ⊥)
    → are_kept d columns by_period named ids (new_rows d m rows) ≡ false
not_one_each d columns by_period named m [] [] n = absurd (n refl)
not_one_each d columns by_period named m [] (v ∷ rows) n = refl
not_one_each d columns by_period named m (id ∷ ids) [] n = refl
not_one_each d columns by_period named m (id ∷ ids) (v ∷ rows) n =
    ap (λ b. is_kept d columns by_period (named id) (new_row d m v) && b)
    (not_one_each d columns by_period named m ids rows (λ e. n (omega arith)))
    ∙ no (is_kept d columns by_period (named id) (new_row d m v))

-- ---- distinct ids

all_by_places : (p : ℕ → Bool) (xs : List ℕ) → ((k : ℕ) → k < length xs → p (get_or xs k 0) ≡ true)
    → list_all p xs ≡ true
all_by_places p [] h = refl
all_by_places p (x ∷ xs) h =
    ap (λ b. b && list_all p xs) (h 0 (omega arith)) ∙ all_by_places p xs (λ k l. h (suc k) (omega (arith, l)))

-- each number is lower than the next
abbrev NextIsMore : List ℕ → Type 0
NextIsMore xs = (k : ℕ) → suc k < length xs → get_or xs k 0 < get_or xs (suc k) 0

more : (x : ℕ) (xs : List ℕ) → NextIsMore (x ∷ xs) → (k : ℕ) → k < length xs → x < get_or xs k 0
more x xs h zero l = h 0 (omega (arith, l))
more x xs h (suc k) l = omega (arith, more x xs h k (omega (arith, l)), h (suc k) (omega (arith, l)))

once : (xs : List ℕ) → NextIsMore xs → are_distinct xs ≡ true
once [] h = refl
once (x ∷ xs) h =
    ap (λ b. b && are_distinct xs) (all_by_places (λ j. not (nat_eq x j)) xs (λ k l. other x (get_or xs k 0)
    (more x xs h k l)))
    ∙ once xs (λ k l. h (suc k) (omega (arith, l)))
  where
    other : (a b : ℕ) → a < b → not (nat_eq a b) ≡ true
    other a b l = grind (arith, nat_tests, l)

twice : (xs : List ℕ) (k : ℕ) → suc k < length xs → get_or xs k 0 ≡ get_or xs (suc k) 0 → are_distinct xs ≡ false
twice [] k l e = absurd (omega (arith, l))
twice (x ∷ []) k l e = absurd (omega (arith, l))
twice (x ∷ y ∷ xs) zero l e =
    ap (λ b. (not b && list_all (λ j. not (nat_eq x j)) xs) && are_distinct (y ∷ xs)) (same x y e)
  where
    same : (a b : ℕ) → a ≡ b → nat_eq a b ≡ true
    same a b e = grind (arith, nat_tests, e)
twice (x ∷ y ∷ xs) (suc k) l e =
    ap (λ b. list_all (λ j. not (nat_eq x j)) (y ∷ xs) && b) (twice (y ∷ xs) k (omega (arith, l)) e)
    ∙ no (list_all (λ j. not (nat_eq x j)) (y ∷ xs))

-- in a rising list, a test of neighbours decides whether the numbers are distinct
pub distinct_told : (xs : List ℕ) (r : Bool) → AreRising xs → IsAllAdjacentAnswer (λ x y b. b ≡ nat_lt x y) xs r
    → r ≡ are_distinct xs
distinct_told xs true up h =
    sym (once xs (λ k l. subst (λ n. get_or xs k 0 < get_or xs n 0) (add-one k)
    (less (get_or xs k 0) (get_or xs (k + 1) 0) (h k 0 (omega (arith, l))))))
  where
    less : (a b : ℕ) → true ≡ nat_lt a b → a < b
    less a b e = grind (arith, nat_tests, e)
distinct_told xs false up h =
    sym (twice xs h.0 (omega (arith, h.1)) (same (get_or xs h.0 0) (get_or xs (h.0 + 1) 0) (h.2 0)
    (up h.0 (h.0 + 1) (omega arith) h.1) ∙ ap (λ n. get_or xs n 0) (add-one h.0)))
  where
    same : (a b : ℕ) → false ≡ nat_lt a b → a ≤ b → a ≡ b
    same a b e l = grind (arith, nat_tests, e, l)

-- whether ids are distinct does not depend on their order
pub distinct_either : (xs ys : List ℕ) → SameBag xs ys → are_distinct xs ≡ are_distinct ys
distinct_either xs ys h = same_bool (are_distinct xs) (are_distinct ys) (pairs_by_bag nat_eq turned xs ys h)
    (pairs_by_bag nat_eq turned ys xs (same-sym h))
  where
    turned : (a b : ℕ) → nat_eq a b ≡ nat_eq b a
    turned a b = grind (arith, nat_tests)

-- nor does membership
pub among_bag : (i : ℕ) (xs ys : List ℕ) → SameBag xs ys → is_among i xs ≡ is_among i ys
among_bag i xs ys h = sym (some_is i xs) ∙ any_bag (nat_eq i) h ∙ some_is i ys
