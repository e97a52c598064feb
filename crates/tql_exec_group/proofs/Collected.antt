-- The nodes that are collected for HAVING and the items.
use Rattle.std.specs.Prelude.{◌≡◌, ℕ, ◌+◌, ◌<◌, ◌≤◌, List, [], ◌∷◌, ◌++◌, All, length, slice_index_or}
use Rattle.std.proofs.Common.{sym, ap, subst, ◌∙◌, arith, take}
use Rattle.std.proofs.lemmas.Bool.{ltb-true, ltb-false}
use Rattle.std.proofs.lemmas.List.{get_or_append_left, get_or_push, length_push}
use Rattle.std.proofs.lemmas.List.Elements.{All-cons, All-from_get_or, All-head, All-more, All-nil, All-tail}
use Rattle.std.proofs.lemmas.List.Elements.{All-weaker}
use Rattle.std.proofs.lemmas.List.Elements.{filter_map-append}
use Rattle.std.specs.Prelude.{true, ◌&&◌, nat_le, nat_lt, refl}
use Rattle.std.specs.List.{cons_option}
use Rattle.std.proofs.lemmas.Bool.Decides.{nat_tests}
use Rattle.tql_spec.proofs.Members.{by_bool}
use Rattle.tql_expr.specs.declared.node.Node.{Node}
use Rattle.tql_expr.specs.declared.node.Node.TheVariants.{Literal, Column, Negate, Binary, CountRows, Aggregate}
use Rattle.tql_expr.specs.declared.node.Node.TheVariants.{Compare, IsNull, Related, ContainsPoint, Not, And, Or}
use Rattle.tql_expr.specs.Meaning.{HasOperand}
use Rattle.tql_expr.specs.declared.terms.Aggregate.{Aggregate as Asked}
use Rattle.tql_expr.specs.declared.terms.Aggregate.TheVariants.{Over}
use Rattle.tql_expr.specs.declared.terms.Terms.{Terms}
use Rattle.tql_exec_group.specs.Steps.{aggregate_of, aggregates_in, reads_from, AreSteps, IsStep, LiesIn}
use Rattle.tql_exec_group.specs.declared.steps.Steps.{Steps}

-- one more node
pub one_more_step : (t : Terms) (old new : Steps) (n : Node) → new.from ≡ old.from
    → new.nodes.items ≡ old.nodes.items ++ n ∷ []
    → new.aggregates.items ≡ old.aggregates.items ++ aggregates_in (n ∷ [])
    → IsStep t old.from (old.from + length old.nodes.items) n → AreSteps t old → AreSteps t new
one_more_step t old new n same nodes more step h = record {
  each = λ i l. subst (λ f. IsStep t f (f + i) (slice_index_or new.nodes.items i CountRows)) (sym same)
      (subst (λ ns. IsStep t old.from (old.from + i) (slice_index_or ns i CountRows)) (sym nodes)
      (each i (subst (λ ns. i < length ns) nodes l)));
  aggregates = more ∙ ap (λ ws. ws ++ aggregates_in (n ∷ [])) h.aggregates
      ∙ sym (filter_map-append aggregate_of old.nodes.items (n ∷ [])) ∙ sym (ap aggregates_in nodes);
}
  where
    each : (i : ℕ) → i < length (old.nodes.items ++ n ∷ [])
        → IsStep t old.from (old.from + i) (slice_index_or (old.nodes.items ++ n ∷ []) i CountRows)
    each i l = by_bool (nat_lt i (length old.nodes.items))
        (λ e.
        let k : i < length old.nodes.items = ltb-true i (length old.nodes.items) e in
        subst (IsStep t old.from (old.from + i))
        (sym (get_or_append_left old.nodes.items (n ∷ []) CountRows i k)) (h.each i k))
        (λ e.
        let k : length old.nodes.items ≤ i = ltb-false i (length old.nodes.items) e in
        let is : length old.nodes.items ≡ i = omega (arith, k, l, length_push old.nodes.items n) in
        subst (IsStep t old.from (old.from + i)) (sym (get_or_push old.nodes.items n CountRows i is))
        (subst (λ m. IsStep t old.from (old.from + m) n) is step))

-- a wider stretch
pub wider : (from upto from' upto' place : ℕ) → from' ≤ from → upto ≤ upto' → LiesIn from upto place
    → LiesIn from' upto' place
wider from upto from' upto' place low high lies = record {
  above = omega (arith, low, lies.above);
  below = omega (arith, high, lies.below);
}

module _ {X : Type 0} (place : X → ℕ) where
  pub all_wider : (from upto from' upto' : ℕ) (xs : List X) → from' ≤ from → upto ≤ upto'
      → All (λ x. LiesIn from upto (place x)) xs → All (λ x. LiesIn from' upto' (place x)) xs
  all_wider from upto from' upto' xs low high h =
      All-weaker (λ x. LiesIn from upto (place x)) (λ x. LiesIn from' upto' (place x))
      (λ x lies. wider from upto from' upto' (place x) low high lies) xs h

-- every node reads only nodes from the first on
zero_below : (a : ℕ) → nat_le 0 a ≡ true
zero_below a = grind (arith, nat_tests)

pub reads_from_first : (from : ℕ) (n : Node) → from ≡ 0 → reads_from from n ≡ true
reads_from_first from n is = ap (λ f. reads_from f n) is ∙ from_first n
  where
    from_first : (n : Node) → reads_from 0 n ≡ true
    from_first (Literal k) = refl
    from_first (Column i) = refl
    from_first (Negate a) = zero_below a
    from_first (Binary op a b) = λ i. zero_below a i && zero_below b i
    from_first CountRows = refl
    from_first (Aggregate f a) = refl
    from_first (Compare sign a b) = λ i. zero_below a i && zero_below b i
    from_first (IsNull a) = zero_below a
    from_first (Related which a b c d) =
        λ i. (zero_below a i && zero_below b i) && (zero_below c i && zero_below d i)
    from_first (ContainsPoint a b c) = λ i. (zero_below a i && zero_below b i) && zero_below c i
    from_first (Not c) = zero_below c
    from_first (And c d) = λ i. zero_below c i && zero_below d i
    from_first (Or c d) = λ i. zero_below c i && zero_below d i

-- the operands of the aggregates are there
module _ (t : Terms) (from : ℕ) where
  abbrev IsSomeStep : Node → Type 0
  IsSomeStep n = (at : ℕ) × IsStep t from at n

  with_first : (n : Node) (ws : List Asked) → IsSomeStep n → All (HasOperand t) ws
      → All (HasOperand t) (cons_option (aggregate_of n) ws)
  with_first CountRows ws p h = h
  with_first (Aggregate f a) ws p h =
      let below : a < p.0 = ltb-true a p.0 p.1.before in
      All-cons (HasOperand t) (Over f (record { place = a })) ws (omega (arith, below, p.1.there)) h
  with_first (Literal k) ws p h = h
  with_first (Column i) ws p h = h
  with_first (Negate a) ws p h = h
  with_first (Binary op a b) ws p h = h
  with_first (Compare sign a b) ws p h = h
  with_first (IsNull a) ws p h = h
  with_first (Related which a b c d) ws p h = h
  with_first (ContainsPoint a b c) ws p h = h
  with_first (Not c) ws p h = h
  with_first (And c d) ws p h = h
  with_first (Or c d) ws p h = h

  operands : (nodes : List Node) → All IsSomeStep nodes → All (HasOperand t) (aggregates_in nodes)
  operands [] h = All-nil (HasOperand t)
  operands (n ∷ nodes) h =
      with_first n (aggregates_in nodes) (All-head IsSomeStep n nodes h) (operands nodes (All-tail IsSomeStep n nodes
      h))

pub operands_there : (t : Terms) (s : Steps) → AreSteps t s → All (HasOperand t) s.aggregates.items
operands_there t s h =
    subst (All (HasOperand t)) (sym h.aggregates)
    (operands t s.from s.nodes.items
    (All-from_get_or (IsSomeStep t s.from) s.nodes.items CountRows (λ i l. (s.from + i, h.each i l))))

-- ---- a stretch

pub positive : (a n : ℕ) → a < n → 0 < n
positive a n l = omega (arith, l)

module _ {X : Type 0} (place : X → ℕ) (from last from' last' i : ℕ) (xs : List X) (d : X) (l : i < length xs)
    (low : from' ≤ from) (high : last ≤ last') where
  -- one more position in a wider stretch
  pub one_more_lies : All (λ x. LiesIn from (last + 1) (place x)) (take i xs)
      → LiesIn from' (last' + 1) (place (slice_index_or xs i d))
      → All (λ x. LiesIn from' (last' + 1) (place x)) (take (i + 1) xs)
  one_more_lies h k =
      All-more (λ x. LiesIn from' (last' + 1) (place x)) xs i d l
      (all_wider place from (last + 1) from' (last' + 1) (take i xs) low (omega (arith, high)) h) k
