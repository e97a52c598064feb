-- Counting the columns of a table and the references of a select.
use Rattle.std.specs.Prelude.{◌≡◌, refl, ℕ, ◌+◌, ◌<◌, ◌≤◌, Bool, true, nat_lt, List, map, length, drop, get_or, sum_by}
use Rattle.std.proofs.Common.{ap, sym, ◌∙◌, arith}
use Rattle.std.proofs.lemmas.Bool.{lt-ltb}
use Rattle.std.proofs.lemmas.List.{at_drop_all}
use Rattle.std.proofs.lemmas.List.Sums.{sum_by-drop_more}
use Rattle.tql_spec.specs.Syntax.{Element, ColumnElement, PeriodElement, ConstraintElement, columns_in}
use Rattle.tql_spec.proofs.Bags.{sum-map}

-- one more element of the list is counted
pub one_more_counted : {X : Type 0} (f : X → ℕ) (xs : List X) (d : X) (total count i r : ℕ) → i < length xs
    → total ≡ count + sum_by f (drop i xs) → r ≡ f (get_or xs i d) → total ≡ (count + r) + sum_by f (drop (i + 1) xs)
one_more_counted f xs d total count i r lt h is = omega (arith, sum_by-drop_more f xs i d lt)

-- all are counted
pub all_counted : {X : Type 0} (f : X → ℕ) (xs : List X) (total count i : ℕ) → length xs ≤ i
    → total ≡ count + sum_by f (drop i xs) → total ≡ count
all_counted f xs total count i le h = let none : sum_by f (drop i xs) ≡ 0 =
    at_drop_all (sum_by f) xs i le in omega arith

-- an element counts as one column at most
pub one_column : (e : Element) → columns_in e ≤ 1
one_column (ColumnElement c) = omega arith
one_column (PeriodElement n s e) = omega arith
one_column (ConstraintElement c) = omega arith

-- the test on the count equals the test on the sum over the trees
pub counted_test : {X Y : Type 0} (g : X → Y) (w : Y → ℕ) (xs : List X) (limit first count : ℕ)
    → first + sum_by (λ x. w (g x)) xs ≡ count → nat_lt limit count ≡ nat_lt limit (first + sum_by w (map g xs))
counted_test g w xs limit first count h =
    ap (nat_lt limit) (sym h ∙ ap (λ (n : ℕ). first + n) (sym (sum-map g w xs)))

-- a count that exceeds the limit before all are counted decides the test
pub counted_enough : {X Y : Type 0} (g : X → Y) (w : Y → ℕ) (xs : List X) (limit first count left : ℕ)
    → first + sum_by (λ x. w (g x)) xs ≡ count + left → limit < count
    → true ≡ nat_lt limit (first + sum_by w (map g xs))
counted_enough g w xs limit first count left h over =
    let all = sum-map g w xs in
    sym (lt-ltb limit (first + sum_by w (map g xs)) (omega (arith, all)))
