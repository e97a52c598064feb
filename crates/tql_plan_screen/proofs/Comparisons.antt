-- Conditions that compare a column with a literal.
use Rattle.std.proofs.Common.{◌≡◌, ◌∙◌, refl, sym, ap, subst, ℕ, ◌==◌, Bool, true, false, ◌&&◌, cond, []}
use Rattle.std.proofs.Common.{⊎_elim, unwrap_or}
use Rattle.std.specs.Prelude.{◌||◌, Option, Some, None, is_some, option_map}
use Rattle.std.proofs.lemmas.Bool.{and_parts, eq-eqb, eqb-true, or_cases}
use Rattle.tql_spec.specs.Words.{◌>>=◌}
use Rattle.tql_spec.specs.Datum.{Datum, Row, Comparison, Equals, Differs, Below, AtMost, Above, AtLeast}
use Rattle.tql_spec.specs.Definition.{cell}
use Rattle.tql_spec.specs.Expression.{Expr, Literal, Column, Negate, Binary, CountRows, Aggregate, Cond, Compare}
use Rattle.tql_spec.specs.Expression.{IsNull, Related, ContainsPoint, Not, And, Or, is_safe, judge}
use Rattle.tql_spec.proofs.Members.{by_bool}
use Rattle.tql_plan_laws.specs.Conjuncts.{is_sure}
use Rattle.tql_plan_laws.specs.Constants.{is_column, literal_of, value_of}
use Rattle.tql_plan_laws.specs.Equalities.{column_of, or_else}
use Rattle.tql_plan_access.specs.Choices.{is_equated}
use Rattle.tql_plan_screen.specs.Coded.{column_of_test, compared_column}
use Rattle.tql_plan_screen.specs.Screens.{Test, Compares, compared_with, comparison_in, is_compared, is_met, turned}
use Rattle.tql_plan_screen.proofs.Turned.{turned_same}

-- ---- a column, and a literal

column_is : (k : ℕ) (x : Expr) → is_column k x ≡ true → column_of x ≡ Some k
column_is k (Column j) h = ap Some (sym (eqb-true k j h))
column_is k (Literal v) h = absurd (cc)
column_is k (Negate e) h = absurd (cc)
column_is k (Binary op a b) h = absurd (cc)
column_is k CountRows h = absurd (cc)
column_is k (Aggregate f e) h = absurd (cc)

no_column : (x : Expr) (v : Datum) → literal_of x ≡ Some v → column_of x ≡ None
no_column (Column j) v h = absurd (cc)
no_column (Literal w) v h = refl
no_column (Negate e) v h = refl
no_column (Binary op a b) v h = refl
no_column CountRows v h = refl
no_column (Aggregate f e) v h = refl

some_there : (o : Option Datum) (P : Type 0) → is_some o ≡ true → ((v : Datum) → o ≡ Some v → P) → P
some_there None P h f = absurd (cc)
some_there (Some v) P h f = f v refl

-- ---- the comparison of a condition

-- the column is on the left
near : (s : Comparison) (x y : Expr) (k : ℕ) (v : Datum) → column_of x ≡ Some k → literal_of y ≡ Some v
    → comparison_in (Compare s x y) ≡ Some (Compares k s v)
near s x y k v h e =
    (λ i. or_else (h i >>= λ a. e i >>= λ w. Some (Compares a s w)) (compared_with (turned s) y x))

-- the column is on the right
far : (s : Comparison) (x y : Expr) (k : ℕ) (v : Datum) → literal_of x ≡ Some v → column_of y ≡ Some k
    → comparison_in (Compare s x y) ≡ Some (Compares k (turned s) v)
far s x y k v e h =
    (λ i. or_else (no_column x v e i >>= λ a. literal_of y >>= λ w. Some (Compares a s w))
    (h i >>= λ a. e i >>= λ w. Some (Compares a (turned s) w)))

-- a comparison of a column is found
pub compared_there : (k : ℕ) (c : Cond) → is_compared k c ≡ true → compared_column c ≡ Some k
compared_there k (IsNull a) h = absurd (cc)
compared_there k (Related w a b c d) h = absurd (cc)
compared_there k (ContainsPoint a b c) h = absurd (cc)
compared_there k (Not c) h = absurd (cc)
compared_there k (And c d) h = absurd (cc)
compared_there k (Or c d) h = absurd (cc)
compared_there k (Compare s x y) h =
    ⊎_elim
    (λ l. let p = and_parts (is_column k x) (is_some (literal_of y)) l in
    some_there (literal_of y) (compared_column (Compare s x y) ≡ Some k) p.1
    (λ v e. ap (option_map column_of_test) (near s x y k v (column_is k x p.0) e)))
    (λ r. let p = and_parts (is_some (literal_of x)) (is_column k y) r in
    some_there (literal_of x) (compared_column (Compare s x y) ≡ Some k) p.0
    (λ v e. ap (option_map column_of_test) (far s x y k v e (column_is k y p.1))))
    (or_cases (is_column k x && is_some (literal_of y)) (is_some (literal_of x) && is_column k y) h)

-- ---- what is found is one

one_test : (t u : Test) → Some t ≡ Some u → t ≡ u
one_test t u e = ap (λ o. unwrap_or o t) e

with_cases : (s : Comparison) (x y : Expr) (t : Test) (P : Expr → Expr → Test → Type 0)
    → compared_with s x y ≡ Some t → ((i : ℕ) (v : Datum) → P (Column i) (Literal v) (Compares i s v)) → P x y t
with_cases s (Literal w) y t P e f = absurd (cc)
with_cases s (Negate a) y t P e f = absurd (cc)
with_cases s (Binary op a b) y t P e f = absurd (cc)
with_cases s CountRows y t P e f = absurd (cc)
with_cases s (Aggregate g a) y t P e f = absurd (cc)
with_cases s (Column i) (Column j) t P e f = absurd (cc)
with_cases s (Column i) (Negate a) t P e f = absurd (cc)
with_cases s (Column i) (Binary op a b) t P e f = absurd (cc)
with_cases s (Column i) CountRows t P e f = absurd (cc)
with_cases s (Column i) (Aggregate g a) t P e f = absurd (cc)
with_cases s (Column i) (Literal v) t P e f =
    subst (P (Column i) (Literal v)) (one_test (Compares i s v) t e) (f i v)

both_cases : (s : Comparison) (x y : Expr) (t : Test) (P : Expr → Expr → Test → Type 0)
    → comparison_in (Compare s x y) ≡ Some t → ((i : ℕ) (v : Datum) → P (Column i) (Literal v) (Compares i s v))
    → ((i : ℕ) (v : Datum) → P (Literal v) (Column i) (Compares i (turned s) v)) → P x y t
both_cases s x y t P e f g = by_first (compared_with s x y) refl e
  where
    by_first : (o : Option Test) → compared_with s x y ≡ o → or_else o (compared_with (turned s) y x) ≡ Some t
        → P x y t
    by_first (Some u) k h = with_cases s x y t P (k ∙ h) f
    by_first None k h = with_cases (turned s) y x t (λ a b u. P b a u) h g

-- the comparison that is found, for each fact of conditions and tests
found_cases : (c : Cond) (t : Test) (P : Cond → Test → Type 0) → comparison_in c ≡ Some t
    → ((s : Comparison) (i : ℕ) (v : Datum) → P (Compare s (Column i) (Literal v)) (Compares i s v))
    → ((s : Comparison) (i : ℕ) (v : Datum) → P (Compare s (Literal v) (Column i)) (Compares i (turned s) v)) → P c t
found_cases (Compare s x y) t P e f g = both_cases s x y t (λ a b u. P (Compare s a b) u) e (f s) (g s)
found_cases (IsNull a) t P e f g = absurd (cc)
found_cases (Related w a b c d) t P e f g = absurd (cc)
found_cases (ContainsPoint a b c) t P e f g = absurd (cc)
found_cases (Not c) t P e f g = absurd (cc)
found_cases (And c d) t P e f g = absurd (cc)
found_cases (Or c d) t P e f g = absurd (cc)

-- a row meets the test exactly if it meets the condition
pub comparison_met : (c : Cond) (t : Test) → comparison_in c ≡ Some t → (row : Row)
    → is_met t row ≡ is_sure (judge [] row c)
comparison_met c t e = found_cases c t (λ d u. (row : Row) → is_met u row ≡ is_sure (judge [] row d)) e
    (λ s i v row. refl) (λ s i v row. turned_same s (cell row i) v)

itself : (i : ℕ) → (i == i) ≡ true
itself i = eq-eqb i i refl

-- the condition compares the column of the test
pub comparison_compared : (c : Cond) (t : Test) → comparison_in c ≡ Some t → is_compared (column_of_test t) c ≡ true
comparison_compared c t e = found_cases c t (λ d u. is_compared (column_of_test u) d ≡ true) e
    (λ s i v. ap (λ b. (b && true) || (false && is_column i (Literal v))) (itself i)) (λ s i v. itself i)

-- the condition calculates nothing
pub comparison_safe : (c : Cond) (t : Test) → comparison_in c ≡ Some t → is_safe c ≡ true
comparison_safe c t e = found_cases c t (λ d u. is_safe d ≡ true) e (λ s i v. refl) (λ s i v. refl)

-- a condition that compares a column with a literal calculates nothing
pub compared_safe : (k : ℕ) (c : Cond) → is_compared k c ≡ true → is_safe c ≡ true
compared_safe k c h = by_found (comparison_in c) refl (compared_there k c h)
  where
    by_found : (o : Option Test) → comparison_in c ≡ o → option_map column_of_test o ≡ Some k → is_safe c ≡ true
    by_found None e l = absurd (cc)
    by_found (Some t) e l = comparison_safe c t e

-- ---- equalities

-- the equality of a column with a literal
pub equality_found : (i : ℕ) (c : Cond) (v : Datum) → value_of i c ≡ Some v
    → comparison_in c ≡ Some (Compares i Equals v)
equality_found i (Compare Differs x y) v h = absurd (cc)
equality_found i (Compare Below x y) v h = absurd (cc)
equality_found i (Compare AtMost x y) v h = absurd (cc)
equality_found i (Compare Above x y) v h = absurd (cc)
equality_found i (Compare AtLeast x y) v h = absurd (cc)
equality_found i (IsNull a) v h = absurd (cc)
equality_found i (Related w a b c d) v h = absurd (cc)
equality_found i (ContainsPoint a b c) v h = absurd (cc)
equality_found i (Not c) v h = absurd (cc)
equality_found i (And c d) v h = absurd (cc)
equality_found i (Or c d) v h = absurd (cc)
equality_found i (Compare Equals x y) v h = by_bool (is_column i x)
    (λ l. near Equals x y i v (column_is i x l)
    (sym (ap (λ b. cond b (literal_of y) (cond (is_column i y) (literal_of x) None)) l) ∙ h))
    (λ l. by_bool (is_column i y)
    (λ r. far Equals x y i v (rest l true r) (column_is i y r))
    (λ r. absurd (let k : None ≡ Some v = rest l false r in cc)))
  where
    rest : is_column i x ≡ false → (b : Bool) → is_column i y ≡ b → cond b (literal_of x) None ≡ Some v
    rest l b r =
        sym (ap (λ a. cond a (literal_of y) (cond (is_column i y) (literal_of x) None)) l
        ∙ ap (λ a. cond a (literal_of x) None) r)
        ∙ h

-- a column that is equated with a literal is compared with it
pub equated_compared : (i : ℕ) (c : Cond) → is_equated i c ≡ true → is_compared i c ≡ true
equated_compared i c h = some_there (value_of i c) (is_compared i c ≡ true) h
    (λ v e. comparison_compared c (Compares i Equals v) (equality_found i c v e))
