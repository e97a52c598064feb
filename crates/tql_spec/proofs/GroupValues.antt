-- Evaluation on a group depends only on the bag of its rows and the cells of its grouping columns.
use Rattle.std.proofs.Common.{◌≡◌, ℕ, Bool, true, false, List, [], ◌∷◌, refl, sym, ap, ◌∙◌, arith, inl, inr}
use Rattle.std.specs.Prelude.{Option, Some, None, ◌||◌, ◌==◌, ◌⊎◌, not, pos, IsTrue, if◌then◌else◌}
use Rattle.std.specs.List.{list_all}
use Rattle.std.proofs.lemmas.Bool.{and_parts}
use Rattle.std.proofs.lemmas.Bool.Decides.{nat_tests}
use Rattle.tql_spec.specs.Words.{◌>>=◌, map_all, with_front}
use Rattle.tql_spec.specs.Truth.{and, or, negated, truth_of}
use Rattle.tql_spec.specs.Datum.{Datum, Int, Minus, Row, calculate, compare, exact, fits, is_null}
use Rattle.tql_spec.specs.Period.{predicate, contains_point}
use Rattle.tql_spec.specs.Definition.{cell}
use Rattle.tql_spec.specs.Expression.{Function, Expr, Literal, Column, Negate, Binary, CountRows, Aggregate, Cond}
use Rattle.tql_spec.specs.Expression.{Compare, IsNull, Related, ContainsPoint, Not, And, Or, present, aggregate, both}
use Rattle.tql_spec.specs.Expression.{go_on, eval, judge, passes}
use Rattle.tql_spec.specs.Query.{cells_at}
use Rattle.tql_spec.specs.Creation.{has_expr, has_number}
use Rattle.tql_spec.specs.Binding.{is_loose}
use Rattle.tql_spec.specs.Bag.{SameBag}
use Rattle.tql_spec.proofs.BagFolds.{same_length}
use Rattle.tql_spec.proofs.AggregateBags.{present_same}
use Rattle.tql_spec.proofs.QueryBags.{Same, mapped_same}

-- ---- tests that fail

not_either : (a b : Bool) → not (a || b) ≡ true → (not a ≡ true) × (not b ≡ true)
not_either false b h = (refl, h)
not_either true b h = absurd (cc)

not_not : (a : Bool) → not (not a) ≡ true → a ≡ true
not_not true h = refl
not_not false h = absurd (cc)

-- ---- the columns of a group

front_cell : (x y : Datum) (xs ys : List Datum) → x ∷ xs ≡ y ∷ ys → (x ≡ y) × (xs ≡ ys)
front_cell x y xs ys e = (cc, cc)

number_or : (i j : ℕ) (js : List ℕ) → has_number i (j ∷ js) ≡ true → (i ≡ j) ⊎ (has_number i js ≡ true)
number_or i j js h = by (i == j) refl h
  where
    by : (b : Bool) → (i == j) ≡ b → (b || has_number i js) ≡ true → (i ≡ j) ⊎ (has_number i js ≡ true)
    by true e k = inl (grind (arith, nat_tests))
    by false e k = inr k

-- rows with the same cells in these columns have the same cell in each of them
pub cells_agree : (columns : List ℕ) (r s : Row) → cells_at columns r ≡ cells_at columns s
    → (i : ℕ) → has_number i columns ≡ true → cell r i ≡ cell s i
cells_agree [] r s e i h = absurd (cc)
cells_agree (j ∷ js) r s e i h =
    let k = front_cell (cell r j) (cell s j) (cells_at js r) (cells_at js s) e in
    elim (number_or i j js h) [ inl q ↦ ap (cell r) q ∙ k.0 ∙ ap (cell s) (sym q) | inr n ↦ cells_agree js r s k.1 i n ]

-- ---- aggregates of rows

-- an aggregate of the values on the rows depends only on their bag
of_same : (f : Function) (o p : Option (List Datum)) → Same o p
    → (o >>= λ vs. aggregate f (present vs)) ≡ (p >>= λ vs. aggregate f (present vs))
of_same f None None h = refl
of_same f None (Some ws) h = absurd h
of_same f (Some vs) None h = absurd h
of_same f (Some vs) (Some ws) h = present_same f vs ws h

aggregated : (f : Function) (e : Expr) (group group' : List Row) → SameBag group group'
    → (map_all (λ r. eval [] r e) group >>= λ vs. aggregate f (present vs))
    ≡ (map_all (λ r. eval [] r e) group' >>= λ vs. aggregate f (present vs))
aggregated f e group group' h =
    let value : Row → Option Datum = λ r. eval [] r e in
    of_same f (map_all value group) (map_all value group')
    (mapped_same value group group' h (map_all value group) (map_all value group') refl refl)

-- ---- expressions and conditions

module _ (groups : List ℕ) (group group' : List Row) (row row' : Row) (h : SameBag group group')
    (agree : (i : ℕ) → has_number i groups ≡ true → cell row i ≡ cell row' i) where
  value_same : (e : Expr) → not (is_loose groups e) ≡ true → eval group row e ≡ eval group' row' e
  value_same (Literal v) l = refl
  value_same (Column i) l = ap Some (agree i (not_not (has_number i groups) l))
  value_same (Negate e) l = ap (λ o. o >>= λ v. calculate Minus (Int (pos 0)) v) (value_same e l)
  value_same (Binary op a b) l =
      let p = not_either (is_loose groups a) (is_loose groups b) l in
      λ i. value_same a p.0 i >>= λ x. value_same b p.1 i >>= λ y. calculate op x y
  value_same CountRows l = ap (λ n. exact (pos n)) (same_length h)
  value_same (Aggregate f e) l = λ i. if fits (pos (same_length h i)) then aggregated f e group group' h i else None

  truth_same : (c : Cond) → not (has_expr (is_loose groups) c) ≡ true → judge group row c ≡ judge group' row' c
  truth_same (Compare sign a b) l =
      let p = not_either (is_loose groups a) (is_loose groups b) l in
      λ i. value_same a p.0 i >>= λ x. value_same b p.1 i >>= λ y. Some (compare sign x y)
  truth_same (IsNull a) l = ap (λ o. o >>= λ x. Some (truth_of (is_null x))) (value_same a l)
  truth_same (Related which a b c d) l =
      let p = not_either (is_loose groups a || is_loose groups b || is_loose groups c) (is_loose groups d) l in
      let q = not_either (is_loose groups a || is_loose groups b) (is_loose groups c) p.0 in
      let r = not_either (is_loose groups a) (is_loose groups b) q.0 in
      λ i. value_same a r.0 i >>= λ xs. value_same b r.1 i >>= λ xe.
      value_same c q.1 i >>= λ ys. value_same d p.1 i >>= λ ye.
      Some (predicate which (xs, xe) (ys, ye))
  truth_same (ContainsPoint a b c) l =
      let q = not_either (is_loose groups a || is_loose groups b) (is_loose groups c) l in
      let r = not_either (is_loose groups a) (is_loose groups b) q.0 in
      λ i. value_same a r.0 i >>= λ xs. value_same b r.1 i >>= λ xe.
      value_same c q.1 i >>= λ y. Some (contains_point (xs, xe) y)
  truth_same (Not c) l = ap (λ o. o >>= λ t. Some (negated t)) (truth_same c l)
  truth_same (And c d) l =
      let p = not_either (has_expr (is_loose groups) c) (has_expr (is_loose groups) d) l in
      λ i. both and (truth_same c p.0 i) (truth_same d p.1 i)
  truth_same (Or c d) l =
      let p = not_either (has_expr (is_loose groups) c) (has_expr (is_loose groups) d) l in
      λ i. both or (truth_same c p.0 i) (truth_same d p.1 i)

  -- whether the groups pass HAVING is the same
  pub passing_same : (having : List Cond) → IsTrue (list_all (λ c. not (has_expr (is_loose groups) c)) having)
      → passes group row having ≡ passes group' row' having
  passing_same [] l = refl
  passing_same (c ∷ cs) l =
      let p = and_parts (not (has_expr (is_loose groups) c))
      (list_all (λ c. not (has_expr (is_loose groups) c)) cs) l in
      λ i. truth_same c p.0 i >>= λ t. go_on t (passing_same cs p.1 i)

  -- the values of the items are the same
  pub items_same : (items : List Expr) → IsTrue (list_all (λ e. not (is_loose groups e)) items)
      → map_all (eval group row) items ≡ map_all (eval group' row') items
  items_same [] l = refl
  items_same (e ∷ es) l =
      let p = and_parts (not (is_loose groups e)) (list_all (λ e. not (is_loose groups e)) es) l in
      λ i. with_front (value_same e p.0 i) (items_same es p.1 i)
