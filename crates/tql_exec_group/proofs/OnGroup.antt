-- The results of nodes on a group are the values and truths of their trees.
use Rattle.std.specs.Prelude.{◌≡◌, refl, ℕ, zero, suc, ◌+◌, ◌-◌, ◌^◌, ◌<◌, ◌≤◌, Bool, true, false, ◌&&◌, ◌||◌, not}
use Rattle.std.specs.Prelude.{IsTrue}
use Rattle.std.specs.Prelude.{filter, if◌then◌else◌, nat_eq, nat_le, nat_lt, List, [], ◌∷◌, ◌++◌, All, map, length}
use Rattle.std.specs.Prelude.{pos, Option}
use Rattle.std.specs.Prelude.{Some, None, slice_get, slice_index_or}
use Rattle.std.specs.List.{cons_option, list_all}
use Rattle.std.proofs.Common.{sym, ap, subst, ◌∙◌, arith, add-zero, zero-add, inl, inr, take}
use Rattle.std.proofs.lemmas.Bool.{and_parts, eqb-true, ltb-false, ltb-true}
use Rattle.std.proofs.lemmas.Bool.Decides.{nat_tests}
use Rattle.std.proofs.lemmas.List.{map-append, length-append, length-map, get_or_append_left, get_or_at}
use Rattle.std.proofs.lemmas.List.{get_or_default, take_more}
use Rattle.std.proofs.lemmas.List.Elements.{All-head, All-tail, filter_map-append}
use Rattle.tql_spec.specs.Words.{◌>>=◌, kept_if, map_all, with_front}
use Rattle.tql_spec.specs.Bag.{In}
use Rattle.tql_spec.specs.Binding.{is_loose}
use Rattle.tql_spec.specs.Creation.{has_expr, has_number}
use Rattle.tql_spec.specs.Truth.{Truth, and, or, negated, truth_of}
use Rattle.tql_spec.specs.Datum.{Datum, Null, Int, Minus, Row, calculate, exact, is_null, same_row}
use Rattle.tql_spec.specs.Expression as bound
use Rattle.tql_spec.specs.Expression.{Cond, Expr, both, eval, go_on, judge, passes}
use Rattle.tql_spec.specs.Query.{cells_at, Scope}
use Rattle.tql_spec.specs.QueryLaws.{NamesGroups, shown}
use Rattle.tql_spec.specs.Definition.{cell}
use Rattle.tql_spec.proofs.Members.{by_bool, same_row-self, same_row-is}
use Rattle.tql_spec.proofs.MemberLists.{in_image}
use Rattle.tql_spec.proofs.DistinctBags.{in_distinct}
use Rattle.tql_value.specs.Views.{outcome, plain_comparison}
use Rattle.tql_period.specs.Relations.{plain_relation}
use Rattle.tql_expr.specs.Meaning.{aggregate as tree_of, calculated, cond, datum_at, expr, judged, trees}
use Rattle.tql_expr.specs.Nodes.{reads_before}
use Rattle.tql_expr.specs.Trees.{Term, cond_of, expr_of, node_term, plain_operation, term_in}
use Rattle.tql_expr.specs.declared.node.Node.{Node}
use Rattle.tql_expr.specs.declared.node.Node.TheVariants.{Literal, Column, Negate, Binary, CountRows, Aggregate}
use Rattle.tql_expr.specs.declared.node.Node.TheVariants.{Compare, IsNull, Related, ContainsPoint, Not, And, Or}
use Rattle.tql_expr.specs.declared.terms.Aggregate as code
use Rattle.tql_expr.specs.declared.terms.Aggregate.TheVariants.{Over}
use Rattle.tql_expr.specs.declared.terms.CondId.{CondId}
use Rattle.tql_expr.specs.declared.terms.ExprId.{ExprId}
use Rattle.tql_expr.specs.declared.terms.Terms.{Terms}
use Rattle.tql_exec_fold.specs.Folded.{HasFolded, HaveFolded}
use Rattle.tql_exec_fold.proofs.Bests.{too_great}
use Rattle.tql_exec_group.specs.Counted.{kept_count}
use Rattle.tql_exec_group.specs.Grouped.{keys_of, with_key}
use Rattle.tql_exec_group.specs.Places.{cell_in, key_at, place_from}
use Rattle.tql_exec_group.specs.Results.{AreResults, IsKeyOf, IsResult}
use Rattle.tql_exec_group.specs.Steps.{aggregate_of, aggregates_in, compared_by, contained_by}
use Rattle.tql_exec_group.specs.Steps.{node_truth, node_value, passes_by, reads_from, related_by, shown_if, truth_in}
use Rattle.tql_exec_group.specs.Steps.{value_in, AreSteps, IsStep, LiesIn}
use Rattle.tql_exec_fold.specs.declared.fold.Accumulator.{Accumulator}
use Rattle.tql_exec_group.specs.declared.on_group.Found.{Found}
use Rattle.tql_exec_group.specs.declared.steps.Steps.{Steps}
use Rattle.tql_exec_group.proofs.Parts.{inside, zip_get}

-- ---- tests

not_either : (a b : Bool) → not (a || b) ≡ true → (not a ≡ true) × (not b ≡ true)
not_either false b h = (refl, h)
not_either true b h = absurd (cc)

pub not_not : (a : Bool) → not (not a) ≡ true → a ≡ true
not_not true h = refl
not_not false h = absurd (cc)

not_both : (b : Bool) → b ≡ true → b ≡ false → ⊥
not_both b e f = cc

-- ---- the columns of a group

shifted : (p q : ℕ) → p + suc q ≡ (p + 1) + q
shifted p q = omega arith

module _ (row : Row) (i : ℕ) where
  found_in : (p : ℕ) (cs : List ℕ) (key : Row)
      → ((q : ℕ) → q < length cs → slice_index_or key (p + q) Null ≡ cell row (slice_index_or cs q 0))
      → has_number i cs ≡ true → cell_in key (place_from p cs i) ≡ cell row i
  found_in p [] key at h = absurd (cc)
  found_in p (c ∷ cs) key at h = by_bool (nat_eq i c)
      (λ is. ap (λ (b : Bool). cell_in key (if b then Some p else place_from (p + 1) cs i)) is
      ∙ ap (λ m. slice_index_or key m Null) (sym (add-zero p)) ∙ at 0 (omega arith) ∙ ap (cell row) (sym (eqb-true i
      c is)))
      (λ far. ap (λ (b : Bool). cell_in key (if b then Some p else place_from (p + 1) cs i)) far
      ∙ found_in (p + 1) cs key
      (λ q l. ap (λ m. slice_index_or key m Null) (sym (shifted p q)) ∙ at (suc q) (omega arith))
      (sym (ap (λ b. b || has_number i cs) far) ∙ h))

cell_of : (row : Row) (cs : List ℕ) (q : ℕ) → q < length cs
    → slice_index_or (cells_at cs row) q Null ≡ cell row (slice_index_or cs q 0)
cell_of row [] q l = absurd (omega (arith, l))
cell_of row (c ∷ cs) zero l = refl
cell_of row (c ∷ cs) (suc q) l = cell_of row cs q (omega (arith, l))

-- the cells of a row in the grouping columns are its key
key_of_row : (columns : List ℕ) (row : Row) → IsKeyOf columns (cells_at columns row) row
key_of_row columns row i h =
    found_in row i 0 columns (cells_at columns row)
    (λ q l. ap (λ m. slice_index_or (cells_at columns row) m Null) (zero-add q) ∙ cell_of row columns q l) h

first_passes : (p : Row → Bool) (q : Row) (rows : List Row) → In q rows → p q ≡ true
    → p (slice_index_or (filter p rows) 0 []) ≡ true
first_passes p q [] m e = absurd m
first_passes p q (x ∷ rows) m e = by_bool (p x)
    (λ k. ap (λ (b : Bool). p (slice_index_or (if b then x ∷ filter p rows else filter p rows) 0 [])) k ∙ k)
    (λ k. ap (λ (b : Bool). p (slice_index_or (if b then x ∷ filter p rows else filter p rows) 0 [])) k
    ∙ elim m [ inl i ↦ absurd (not_both (p x) (ap p (sym i) ∙ e) k) | inr n ↦ first_passes p q rows n e ])

member_at : (xs : List Row) (n : ℕ) → n < length xs → In (slice_index_or xs n []) xs
member_at [] n l = absurd (omega (arith, l))
member_at (x ∷ xs) zero l = inl refl
member_at (x ∷ xs) (suc n) l = inr (member_at xs n (omega (arith, l)))

-- the key of a group is that of its first row
pub key_of_group : (columns : List ℕ) (rows : List Row) (n : ℕ) (key : Row)
    → n < length (keys_of columns rows) → key ≡ slice_index_or (keys_of columns rows) n [] → IsKeyOf columns key
    (slice_index_or (with_key columns rows key) 0 [])
key_of_group [] rows n key l is = λ i h. absurd (not_both (has_number i []) h refl)
key_of_group (c ∷ cs) rows n key l is =
    let columns : List ℕ = c ∷ cs in
    let among : In key (map (cells_at columns) rows) =
    in_distinct key (map (cells_at columns) rows)
    (subst (λ k. In k (keys_of columns rows)) (sym is) (member_at (keys_of columns rows) n l)) in
    let some = in_image (cells_at columns) key rows among in
    let test : Row → Bool = λ r. same_row (cells_at columns r) key in
    let first : Row = slice_index_or (filter test rows) 0 [] in
    let passes : same_row (cells_at columns first) key ≡ true =
    first_passes test some.0 rows some.1 (ap (λ k. same_row k key) (sym some.2) ∙ same_row-self key) in
    subst (λ k. IsKeyOf columns k first) (same_row-is (cells_at columns first) key passes) (key_of_row columns first)

-- ---- the number of rows

-- a number that 64 bits do not hold stays one that 64 bits, signed, do not hold
pub count_is : (n : ℕ) → exact (pos (kept_count n)) ≡ exact (pos n)
count_is n = by_bool (nat_lt n (2 ^ 64))
    (λ e. ap (λ m. exact (pos m)) (let l : n < 2 ^ 64 = ltb-true n (2 ^ 64) e in omega arith))
    (λ e.
    let l : 2 ^ 64 ≤ n = ltb-false n (2 ^ 64) e in
    none (kept_count n) (omega arith) ∙ sym (none n (omega arith)))
  where
    none : (m : ℕ) → 2 ^ 63 ≤ m → exact (pos m) ≡ None
    none m l = ap {B = Option Datum} (λ (b : Bool). if b then Some (Int (pos m)) else None) (too_great m l)

-- ---- one node

module _ (t : Terms) (columns : List ℕ) (rows : List Row) (row : Row) (value : ℕ → Option Datum)
    (truth : ℕ → Option Truth) (from at : ℕ)
    (so_far : (a : ℕ) → from ≤ a → a < at → IsResult t columns rows row value truth a) where
  abbrev lit : ℕ → Datum
  lit = datum_at t.literals.items

  abbrev at_ : ℕ → Term
  at_ = term_in (trees t)

  value_there : (a : ℕ) → IsTrue (nat_le from a) → IsTrue (nat_lt a at)
      → not (is_loose columns (expr_of (at_ a))) ≡ true → value a ≡ eval rows row (expr_of (at_ a))
  value_there a low high = (so_far a (grind (arith, nat_tests, low)) (ltb-true a at high)).is_value

  truth_there : (a : ℕ) → IsTrue (nat_le from a) → IsTrue (nat_lt a at)
      → not (has_expr (is_loose columns) (cond_of (at_ a))) ≡ true → truth a ≡ judge rows row (cond_of (at_ a))
  truth_there a low high = (so_far a (grind (arith, nat_tests, low)) (ltb-true a at high)).is_truth

  module _ (key : Row) (is_key : IsKeyOf columns key row) (count : Option Datum)
      (counted : count ≡ eval rows row bound.CountRows) where
    value_right : (n : Node) → IsTrue (reads_before (length t.literals.items) at n) → IsTrue (reads_from from n)
        → aggregate_of n ≡ None → not (is_loose columns (expr_of (node_term lit at_ n))) ≡ true
        → node_value lit (key_at columns key) count value n ≡ eval rows row (expr_of (node_term lit at_ n))
    value_right (Literal k) before within none l = refl
    value_right (Column i) before within none l = ap {B = Option Datum} Some (is_key i (not_not (has_number i
        columns) l))
    value_right (Negate a) before within none l =
        ap (λ o. o >>= λ v. calculate Minus (Int (pos 0)) v) (value_there a within before l)
    value_right (Binary op a b) before within none l =
        let p = not_either (is_loose columns (expr_of (at_ a))) (is_loose columns (expr_of (at_ b))) l in
        let w = and_parts (nat_le from a) (nat_le from b) within in
        let v = and_parts (nat_lt a at) (nat_lt b at) before in
        λ i. calculated (plain_operation op) (value_there a w.0 v.0 p.0 i) (value_there b w.1 v.1 p.1 i)
    value_right CountRows before within none l = counted
    value_right (Aggregate f a) before within none l = absurd (cc)
    value_right (Compare sign a b) before within none l = refl
    value_right (IsNull a) before within none l = refl
    value_right (Related which a b c d) before within none l = refl
    value_right (ContainsPoint a b c) before within none l = refl
    value_right (Not c) before within none l = refl
    value_right (And c d) before within none l = refl
    value_right (Or c d) before within none l = refl

  truth_right : (n : Node) → IsTrue (reads_before (length t.literals.items) at n) → IsTrue (reads_from from n)
      → not (has_expr (is_loose columns) (cond_of (node_term lit at_ n))) ≡ true
      → node_truth value truth n ≡ judge rows row (cond_of (node_term lit at_ n))
  truth_right (Literal k) before within l = refl
  truth_right (Column i) before within l = refl
  truth_right (Negate a) before within l = refl
  truth_right (Binary op a b) before within l = refl
  truth_right CountRows before within l = refl
  truth_right (Aggregate f a) before within l = refl
  truth_right (Compare sign a b) before within l =
      let p = not_either (is_loose columns (expr_of (at_ a))) (is_loose columns (expr_of (at_ b))) l in
      let w = and_parts (nat_le from a) (nat_le from b) within in
      let v = and_parts (nat_lt a at) (nat_lt b at) before in
      λ i. compared_by (plain_comparison sign) (value_there a w.0 v.0 p.0 i) (value_there b w.1 v.1 p.1 i)
  truth_right (IsNull a) before within l = ap (λ o. o >>= λ x. Some (truth_of (is_null x))) (value_there a within
      before l)
  truth_right (Related which a b c d) before within l =
      let la = is_loose columns (expr_of (at_ a)) in
      let lb = is_loose columns (expr_of (at_ b)) in
      let lc = is_loose columns (expr_of (at_ c)) in
      let ld = is_loose columns (expr_of (at_ d)) in
      let p = not_either (la || lb || lc) ld l in
      let q = not_either (la || lb) lc p.0 in
      let r = not_either la lb q.0 in
      let w = and_parts (nat_le from a && nat_le from b) (nat_le from c && nat_le from d) within in
      let x = and_parts (nat_le from a) (nat_le from b) w.0 in
      let y = and_parts (nat_le from c) (nat_le from d) w.1 in
      let v = and_parts (nat_lt a at && nat_lt b at) (nat_lt c at && nat_lt d at) before in
      let k = and_parts (nat_lt a at) (nat_lt b at) v.0 in
      let m = and_parts (nat_lt c at) (nat_lt d at) v.1 in
      λ i. related_by (plain_relation which) (value_there a x.0 k.0 r.0 i) (value_there b x.1 k.1 r.1 i)
      (value_there c y.0 m.0 q.1 i) (value_there d y.1 m.1 p.1 i)
  truth_right (ContainsPoint a b c) before within l =
      let la = is_loose columns (expr_of (at_ a)) in
      let lb = is_loose columns (expr_of (at_ b)) in
      let q = not_either (la || lb) (is_loose columns (expr_of (at_ c))) l in
      let r = not_either la lb q.0 in
      let w = and_parts (nat_le from a && nat_le from b) (nat_le from c) within in
      let x = and_parts (nat_le from a) (nat_le from b) w.0 in
      let v = and_parts (nat_lt a at && nat_lt b at) (nat_lt c at && nat_lt c at) before in
      let k = and_parts (nat_lt a at) (nat_lt b at) v.0 in
      let m = and_parts (nat_lt c at) (nat_lt c at) v.1 in
      λ i. contained_by (value_there a x.0 k.0 r.0 i) (value_there b x.1 k.1 r.1 i) (value_there c w.1 m.0 q.1 i)
  truth_right (Not c) before within l = ap (λ o. o >>= λ s. Some (negated s)) (truth_there c within before l)
  truth_right (And c d) before within l =
      let p = not_either (has_expr (is_loose columns) (cond_of (at_ c))) (has_expr (is_loose columns) (cond_of (at_
      d))) l in
      let w = and_parts (nat_le from c) (nat_le from d) within in
      let v = and_parts (nat_lt c at) (nat_lt d at) before in
      λ i. both and (truth_there c w.0 v.0 p.0 i) (truth_there d w.1 v.1 p.1 i)
  truth_right (Or c d) before within l =
      let p = not_either (has_expr (is_loose columns) (cond_of (at_ c))) (has_expr (is_loose columns) (cond_of (at_
      d))) l in
      let w = and_parts (nat_le from c) (nat_le from d) within in
      let v = and_parts (nat_lt c at) (nat_lt d at) before in
      λ i. both or (truth_there c w.0 v.0 p.0 i) (truth_there d w.1 v.1 p.1 i)

  -- an aggregate
  told_right : (n : Node) (which : code.Aggregate) → aggregate_of n ≡ Some which
      → tree_of t which ≡ expr_of (node_term lit at_ n)
  told_right CountRows which is = absurd (cc)
  told_right (Aggregate f a) which is = ap (tree_of t) (sym (inside (Over f (record { place = a })) which is))
  told_right (Literal k) which is = absurd (cc)
  told_right (Column i) which is = absurd (cc)
  told_right (Negate a) which is = absurd (cc)
  told_right (Binary op a b) which is = absurd (cc)
  told_right (Compare sign a b) which is = absurd (cc)
  told_right (IsNull a) which is = absurd (cc)
  told_right (Related r a b c d) which is = absurd (cc)
  told_right (ContainsPoint a b c) which is = absurd (cc)
  told_right (Not c) which is = absurd (cc)
  told_right (And c d) which is = absurd (cc)
  told_right (Or c d) which is = absurd (cc)

-- ---- one more result

module _ {X : Type 0} (f : Found → Option X) (from : ℕ) (found : List Found) (one : Found) where
  abbrev result_in : List Found → ℕ → Option X
  result_in fs at = slice_index_or (map f fs) (at - from) None

  result_before : (at : ℕ) → from ≤ at → at < from + length found
      → result_in (found ++ one ∷ []) at ≡ result_in found at
  result_before at low high =
      ap (λ os. slice_index_or os (at - from) None) (map-append f found (one ∷ []))
      ∙ get_or_append_left (map f found) (f one ∷ []) None (at - from)
      (omega (arith, low, high, length-map found f))

  result_last : (at : ℕ) → at ≡ from + length found → result_in (found ++ one ∷ []) at ≡ f one
  result_last at is =
      ap (λ os. slice_index_or os (at - from) None) (map-append f found (one ∷ []))
      ∙ get_or_at (map f found) (f one) [] None (at - from) (omega (arith, is, length-map found f))

module _ (t : Terms) (columns : List ℕ) (rows : List Row) (row : Row) (from : ℕ) (found : List Found) (one : Found)
    (n : Node) (key : Row) (h : AreResults t columns rows row from found) (is_key : IsKeyOf columns key row)
    (count : Option Datum) (counted : count ≡ eval rows row bound.CountRows)
    (step : IsStep t from (from + length found) n)
    (plain : aggregate_of n ≡ None → outcome one.value ≡ node_value (datum_at t.literals.items) (key_at columns key)
    count (value_in from found) n)
    (told : (which : code.Aggregate) → aggregate_of n ≡ Some which → outcome one.value ≡ eval rows row (tree_of t
    which))
    (judges : judged one.truth ≡ node_truth (value_in from found) (truth_in from found) n) where
  abbrev here : ℕ
  here = from + length found

  abbrev tree : Term
  tree = node_term (datum_at t.literals.items) (term_in (trees t)) n

  value_of_one : not (is_loose columns (expr_of tree)) ≡ true → outcome one.value ≡ eval rows row (expr_of tree)
  value_of_one l = by_kind (aggregate_of n) refl
    where
      by_kind : (o : Option code.Aggregate) → aggregate_of n ≡ o → outcome one.value ≡ eval rows row (expr_of tree)
      by_kind None e = plain e
          ∙ value_right t columns rows row (value_in from found) (truth_in from found) from here h key is_key count
          counted n
          step.before
          step.within e l
      by_kind (Some which) e = told which e
          ∙ ap (eval rows row) (told_right t columns rows row (value_in from found) (truth_in from found) from here h n
          which e)

  truth_of_one : not (has_expr (is_loose columns) (cond_of tree)) ≡ true
      → judged one.truth ≡ judge rows row (cond_of tree)
  truth_of_one l = judges
      ∙ truth_right t columns rows row (value_in from found) (truth_in from found) from here h n step.before
      step.within l

  abbrev all : List Found
  all = found ++ one ∷ []

  old_result : (at : ℕ) → from ≤ at → at < here → IsResult t columns rows row (value_in from all) (truth_in from all) at
  old_result at low high = record {
    is_value = λ l. result_before (λ (f : Found). outcome f.value) from found one at low high ∙ (h at low
        high).is_value l;
    is_truth = λ l. result_before (λ (f : Found). judged f.truth) from found one at low high ∙ (h at low
        high).is_truth l;
  }

  new_result : (at : ℕ) → at ≡ here → IsResult t columns rows row (value_in from all) (truth_in from all) at
  new_result at is =
      let term : term_in (trees t) at ≡ tree = ap (term_in (trees t)) is ∙ step.term in record {
        is_value = λ l. result_last (λ (f : Found). outcome f.value) from found one at is
            ∙ subst (λ z. not (is_loose columns (expr_of z)) ≡ true → outcome one.value ≡ eval rows row (expr_of z))
            (sym term) value_of_one l;
        is_truth = λ l. result_last (λ (f : Found). judged f.truth) from found one at is
            ∙ subst (λ z. not (has_expr (is_loose columns) (cond_of z)) ≡ true → judged one.truth ≡ judge rows row
            (cond_of z))
            (sym term) truth_of_one l;
      }

  pub one_more_result : AreResults t columns rows row from all
  one_more_result at low high = by_bool (nat_lt at here)
      (λ e. old_result at low (ltb-true at here e))
      (λ e. new_result at (let k : here ≤ at = ltb-false at here e in omega (
        arith,
        high,
        k,
        length-append found (one
            ∷ []),
      )))

-- ---- the next aggregate

behind_first : (which : code.Aggregate) (o : Option code.Aggregate) (xs ys : List code.Aggregate)
    → slice_get ys (length xs) ≡ Some which → slice_get (cons_option o ys) (length (cons_option o xs)) ≡ Some which
behind_first which None xs ys e = e
behind_first which (Some w) xs ys e = e

first_of : (which : code.Aggregate) (o : Option code.Aggregate) (ys : List code.Aggregate) → o ≡ Some which
    → slice_get (cons_option o ys) 0 ≡ Some which
first_of which None ys e = absurd (cc)
first_of which (Some w) ys e = e

-- an aggregate among nodes is as many places on as there are aggregates before it
pub aggregate_among : (nodes : List Node) (i : ℕ) (n : Node) (which : code.Aggregate) → i < length nodes
    → n ≡ slice_index_or nodes i n → aggregate_of n ≡ Some which
    → slice_get (aggregates_in nodes) (length (aggregates_in (take i nodes))) ≡ Some which
aggregate_among [] i n which l is e = absurd (omega (arith, l))
aggregate_among (m ∷ nodes) zero n which l is e =
    first_of which (aggregate_of m) (aggregates_in nodes) (ap aggregate_of (sym is) ∙ e)
aggregate_among (m ∷ nodes) (suc i) n which l is e =
    behind_first which (aggregate_of m) (aggregates_in (take i nodes)) (aggregates_in nodes)
    (aggregate_among nodes i n which (omega (arith, l)) is e)

pub one_more_aggregate : (nodes : List Node) (i : ℕ) (n : Node) → i < length nodes → n ≡ slice_index_or nodes i n
    → length (aggregates_in (take i nodes)) + length (aggregates_in (n ∷ []))
    ≡ length (aggregates_in (take (i + 1) nodes))
one_more_aggregate nodes i n l is =
    sym (ap (λ ns. length (aggregates_in ns)) (take_more nodes i n l)
    ∙ ap length (filter_map-append aggregate_of (take i nodes) (slice_index_or nodes i n ∷ []))
    ∙ length-append (aggregates_in (take i nodes)) (aggregates_in (slice_index_or nodes i n ∷ []))
    ∙ ap (λ m. length (aggregates_in (take i nodes)) + length (aggregates_in (m ∷ []))) (sym is))

at_most_one : (n : Node) → length (aggregates_in (n ∷ [])) ≤ 1
at_most_one n = by_kind (aggregate_of n)
  where
    by_kind : (o : Option code.Aggregate) → length (cons_option o []) ≤ 1
    by_kind None = omega arith
    by_kind (Some which) = omega arith

-- ---- the next node

module _ (t : Terms) (s : Steps) (i next : ℕ) (xs : List Node) (d : Node) (found given : List Found)
    (steps : AreSteps t s) (nodes : xs ≡ s.nodes.items) (slice : given ≡ found) (size : length found ≡ i)
    (inside : i < length s.nodes.items) where
  abbrev node : Node
  node = slice_index_or xs i d

  node_is : node ≡ slice_index_or s.nodes.items i node
  node_is = ap (λ ns. slice_index_or ns i d) nodes ∙ get_or_default s.nodes.items i d node inside

  pub next_step : IsStep t s.from (s.from + length given) node
  next_step =
      let at : length given ≡ i = ap length slice ∙ size in
      subst (λ m. IsStep t s.from (s.from + m) node) (sym at)
      (subst (IsStep t s.from (s.from + i)) (sym (node_is ∙ get_or_default s.nodes.items i node CountRows inside))
      (steps.each i inside))

  module _ (counted : next ≡ length (aggregates_in (take i s.nodes.items))) (after : ℕ)
      (more : after ≡ next + length (aggregates_in (node ∷ []))) where
    pub next_count : after ≡ length (aggregates_in (take (i + 1) s.nodes.items))
    next_count = more ∙ ap (λ m. m + length (aggregates_in (node ∷ []))) counted
        ∙ one_more_aggregate s.nodes.items i node inside node_is

    pub next_few : next ≤ i → after ≤ i + 1
    next_few few = let most = at_most_one node in omega (arith, few, most, more)

  module _ (counted : next ≡ length (aggregates_in (take i s.nodes.items))) (columns : List ℕ) (key : Row)
      (count : ℕ) (folds : List Accumulator) (one : Found)
      (plain : aggregate_of node ≡ None → outcome one.value ≡ node_value (datum_at t.literals.items)
      (key_at columns key) (exact (pos count)) (value_in s.from given) node)
      (told : (which : code.Aggregate) → aggregate_of node ≡ Some which → (t' : Terms) (rows : List Row) (row : Row)
      (a : Accumulator) → slice_get folds next ≡ Some a → HasFolded t' which a rows
      → outcome one.value ≡ eval rows row (tree_of t' which))
      (judges : judged one.truth ≡ node_truth (value_in s.from given) (truth_in s.from given) node)
      (rows : List Row) (row : Row) (is_count : count ≡ kept_count (length rows))
      (held : HaveFolded t s.aggregates.items folds rows) (is_key : IsKeyOf columns key row)
      (so_far : AreResults t columns rows row s.from found) where
    told_here : (which : code.Aggregate) → aggregate_of node ≡ Some which
        → outcome one.value ≡ eval rows row (tree_of t which)
    told_here which is =
        let at : slice_get s.aggregates.items next ≡ Some which =
        ap (λ ws. slice_get ws next) steps.aggregates ∙ ap (slice_get (aggregates_in s.nodes.items)) counted
        ∙ aggregate_among s.nodes.items i node which inside node_is is in
        let fold = zip_get (λ w a. HasFolded t w a rows) next s.aggregates.items folds which held at in
        told which is t rows row fold.0 fold.1 fold.2

    pub next_result : AreResults t columns rows row s.from (found ++ one ∷ [])
    next_result =
        subst (λ fs. AreResults t columns rows row s.from (fs ++ one ∷ [])) slice
        (one_more_result t columns rows row s.from given one node key
        (subst (AreResults t columns rows row s.from) (sym slice) so_far) is_key (exact (pos count))
        (ap (λ m. exact (pos m)) is_count ∙ count_is (length rows)) next_step plain told_here judges)

-- ---- HAVING and the items

-- what one group shows
pub shown_is : (conds : List Cond) (exprs : List Expr) (s : Scope)
    → shown_if (passes s.group s.row conds) (map_all (eval s.group s.row) exprs) ≡ shown conds exprs (s ∷ [])
shown_is conds exprs s = by_test (passes s.group s.row conds) refl
  where
    by_test : (o : Option Bool) → passes s.group s.row conds ≡ o
        → shown_if (passes s.group s.row conds) (map_all (eval s.group s.row) exprs) ≡ shown conds exprs (s ∷ [])
    by_test None e =
        ap (λ o. shown_if o (map_all (eval s.group s.row) exprs)) e
        ∙ sym (ap (λ o. kept_if s o (Some []) >>= λ kept. map_all (λ s. map_all (eval s.group s.row) exprs) kept) e)
    by_test (Some true) e =
        ap (λ o. shown_if o (map_all (eval s.group s.row) exprs)) e
        ∙ sym (ap (λ o. kept_if s o (Some []) >>= λ kept. map_all (λ s. map_all (eval s.group s.row) exprs) kept) e)
    by_test (Some false) e =
        ap (λ o. shown_if o (map_all (eval s.group s.row) exprs)) e
        ∙ sym (ap (λ o. kept_if s o (Some []) >>= λ kept. map_all (λ s. map_all (eval s.group s.row) exprs) kept) e)

module _ (t : Terms) (columns : List ℕ) (rows : List Row) (row : Row) (from : ℕ) (found : List Found)
    (h : AreResults t columns rows row from found) where
  passes_are : (having : List CondId)
      → All (λ (c : CondId). LiesIn from (from + length found) c.place) having
      → IsTrue (list_all (λ c. not (has_expr (is_loose columns) c)) (map (cond t) having))
      → passes_by (truth_in from found) (map (λ (c : CondId). c.place) having) ≡ passes rows row (map (cond t) having)
  passes_are [] there named = refl
  passes_are (c ∷ having) there named =
      let p = and_parts (not (has_expr (is_loose columns) (cond t c)))
      (list_all (λ d. not (has_expr (is_loose columns) d)) (map (cond t) having)) named in
      let lies = All-head (λ (d : CondId). LiesIn from (from + length found) d.place) c having there in
      let one = (h c.place lies.above lies.below).is_truth p.0 in
      let rest = passes_are having (All-tail (λ (d : CondId). LiesIn from (from + length found) d.place) c having
      there) p.1 in
      λ i. one i >>= λ s. go_on s (rest i)

  items_are : (items : List ExprId)
      → All (λ (x : ExprId). LiesIn from (from + length found) x.place) items
      → IsTrue (list_all (λ e. not (is_loose columns e)) (map (expr t) items))
      → map_all (value_in from found) (map (λ (x : ExprId). x.place) items)
      ≡ map_all (eval rows row) (map (expr t) items)
  items_are [] there named = refl
  items_are (x ∷ items) there named =
      let p = and_parts (not (is_loose columns (expr t x)))
      (list_all (λ e. not (is_loose columns e)) (map (expr t) items)) named in
      let lies = All-head (λ (y : ExprId). LiesIn from (from + length found) y.place) x items there in
      let one = (h x.place lies.above lies.below).is_value p.0 in
      let rest = items_are items (All-tail (λ (y : ExprId). LiesIn from (from + length found) y.place) x items there)
      p.1 in
      λ i. with_front (one i) (rest i)

  -- what a group shows
  pub group_shows : (having : List CondId) (items : List ExprId)
      → All (λ (c : CondId). LiesIn from (from + length found) c.place) having
      → All (λ (x : ExprId). LiesIn from (from + length found) x.place) items
      → NamesGroups (Some columns) (map (cond t) having) (map (expr t) items)
      → shown_if (passes_by (truth_in from found) (map (λ (c : CondId). c.place) having))
      (map_all (value_in from found) (map (λ (x : ExprId). x.place) items))
      ≡ shown (map (cond t) having) (map (expr t) items) (record { row = row; group = rows } ∷ [])
  group_shows having items conds exprs named =
      (λ i. shown_if (passes_are having conds named.1 i) (items_are items exprs named.0 i))
      ∙ shown_is (map (cond t) having) (map (expr t) items) (record { row = row; group = rows })
