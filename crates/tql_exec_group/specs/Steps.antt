-- The nodes of HAVING and of the select list, which are evaluated one after another for a group.
use Rattle.std.specs.Prelude.{◌≡◌, ℕ, ◌+◌, ◌-◌, ◌<◌, ◌≤◌, Bool, true, false, ◌&&◌, IsTrue, nat_le, List, []}
use Rattle.std.specs.Prelude.{◌∷◌}
use Rattle.std.specs.Prelude.{length, map, slice_index_or, Option, Some, None, pos}
use Rattle.std.specs.List.{filter_map}
use Rattle.tql_spec.specs.Words.{◌>>=◌, with_front}
use Rattle.tql_spec.specs.Truth.{Truth, True, and, or, negated, truth_of}
use Rattle.tql_spec.specs.Datum.{Comparison, Datum, Row, Null, Int, Minus, calculate, compare, is_null}
use Rattle.tql_spec.specs.Period.{Relation, predicate, contains_point}
use Rattle.tql_spec.specs.Expression.{both, go_on}
use Rattle.tql_value.specs.Views.{outcome, plain_comparison}
use Rattle.tql_period.specs.Relations.{plain_relation}
use Rattle.tql_expr.specs.Meaning.{calculated, datum_at, judged, size, trees}
use Rattle.tql_expr.specs.Nodes.{reads_before}
use Rattle.tql_expr.specs.Trees.{node_term, plain_operation, term_in}
use Rattle.tql_expr.specs.declared.node.Node.{Node}
use Rattle.tql_expr.specs.declared.node.Node.TheVariants.{Literal, Column, Negate, Binary, CountRows, Aggregate}
use Rattle.tql_expr.specs.declared.node.Node.TheVariants.{Compare, IsNull, Related, ContainsPoint, Not, And, Or}
use Rattle.tql_expr.specs.declared.terms.Aggregate as code
use Rattle.tql_expr.specs.declared.terms.Aggregate.TheVariants.{Over}
use Rattle.tql_expr.specs.declared.terms.Terms.{Terms}
use Rattle.tql_exec_group.specs.declared.on_group.Found.{Found}
use Rattle.tql_exec_group.specs.declared.steps.Steps.{Steps}

-- ---- the nodes

-- whether a node outside aggregates reads only nodes from this position on
abbrev pub reads_from : ℕ → Node → Bool
reads_from from (Literal k) = true
reads_from from (Column i) = true
reads_from from (Negate a) = nat_le from a
reads_from from (Binary op a b) = nat_le from a && nat_le from b
reads_from from CountRows = true
reads_from from (Aggregate f a) = true
reads_from from (Compare sign a b) = nat_le from a && nat_le from b
reads_from from (IsNull a) = nat_le from a
reads_from from (Related which a b c d) = (nat_le from a && nat_le from b) && (nat_le from c && nat_le from d)
reads_from from (ContainsPoint a b c) = (nat_le from a && nat_le from b) && nat_le from c
reads_from from (Not c) = nat_le from c
reads_from from (And c d) = nat_le from c && nat_le from d
reads_from from (Or c d) = nat_le from c && nat_le from d

-- the aggregate of an operand that a node is; COUNT(*), the number of rows, has none
abbrev pub aggregate_of : Node → Option code.Aggregate
aggregate_of (Aggregate f a) = Some (Over f (record { place = a }))
aggregate_of _ = None

-- the aggregates among nodes
abbrev pub aggregates_in : List Node → List code.Aggregate
aggregates_in nodes = filter_map aggregate_of nodes

-- a node is the one at this position, and what it reads is there
pub record IsStep (t : Terms) (from at : ℕ) (n : Node) : Type 0 where
  pub before : IsTrue (reads_before (length t.literals.items) at n)
  pub within : IsTrue (reads_from from n)
  pub term : term_in (trees t) at ≡ node_term (datum_at t.literals.items) (term_in (trees t)) n
  pub there : at < size t

-- the nodes from a position on, and their aggregates
pub record AreSteps (t : Terms) (s : Steps) : Type 0 where
  pub each : (i : ℕ) → i < length s.nodes.items → IsStep t s.from (s.from + i)
      (slice_index_or s.nodes.items i CountRows)
  pub aggregates : s.aggregates.items ≡ aggregates_in s.nodes.items

-- a position lies between two, and may be the first
pub record LiesIn (from upto place : ℕ) : Type 0 where
  pub above : from ≤ place
  pub below : place < upto

-- a position is that of one of the nodes
abbrev pub IsStepped : Steps → ℕ → Type 0
IsStepped s place = LiesIn s.from (s.from + length s.nodes.items) place

-- ---- their results

-- the value at a position, of those from a first position on; none if it is out of range
abbrev pub value_in : ℕ → List Found → ℕ → Option Datum
value_in from found at = slice_index_or (map (λ (f : Found). outcome f.value) found) (at - from) None

-- the truth likewise
abbrev pub truth_in : ℕ → List Found → ℕ → Option Truth
truth_in from found at = slice_index_or (map (λ (f : Found). judged f.truth) found) (at - from) None

-- the value of a node from the values of its operands and, for COUNT(*), from that of the number of rows; of a
-- condition or an aggregate of an operand it says nothing
abbrev pub node_value : (ℕ → Datum) → (ℕ → Datum) → Option Datum → (ℕ → Option Datum) → Node → Option Datum
node_value literal cell count value (Literal k) = Some (literal k)
node_value literal cell count value (Column i) = Some (cell i)
node_value literal cell count value CountRows = count
node_value literal cell count value (Negate a) = value a >>= λ v. calculate Minus (Int (pos 0)) v
node_value literal cell count value (Binary op a b) = calculated (plain_operation op) (value a) (value b)
node_value literal cell count value _ = Some Null

-- a comparison, a predicate on two periods, and one on a period and a point, of values that may be out of range
abbrev pub compared_by : Comparison → Option Datum → Option Datum → Option Truth
compared_by sign a b = a >>= λ x. b >>= λ y. Some (compare sign x y)

abbrev pub related_by : Relation → (a b c d : Option Datum) → Option Truth
related_by which a b c d =
    a >>= λ xs. b >>= λ xe. c >>= λ ys. d >>= λ ye. Some (predicate which (xs, xe) (ys, ye))

abbrev pub contained_by : (a b c : Option Datum) → Option Truth
contained_by a b c = a >>= λ xs. b >>= λ xe. c >>= λ y. Some (contains_point (xs, xe) y)

-- the truth of a node from the results of its operands; an expression is no condition, and counts as true
abbrev pub node_truth : (ℕ → Option Datum) → (ℕ → Option Truth) → Node → Option Truth
node_truth value truth (Compare sign a b) = compared_by (plain_comparison sign) (value a) (value b)
node_truth value truth (IsNull a) = value a >>= λ x. Some (truth_of (is_null x))
node_truth value truth (Related which a b c d) =
    related_by (plain_relation which) (value a) (value b) (value c) (value d)
node_truth value truth (ContainsPoint a b c) = contained_by (value a) (value b) (value c)
node_truth value truth (Not c) = truth c >>= λ t. Some (negated t)
node_truth value truth (And c d) = both and (truth c) (truth d)
node_truth value truth (Or c d) = both or (truth c) (truth d)
node_truth value truth _ = Some True

-- whether conjuncts hold, each reached only if all before it are true
abbrev pub passes_by : (ℕ → Option Truth) → List ℕ → Option Bool
passes_by truth [] = Some true
passes_by truth (c ∷ cs) = truth c >>= λ t. go_on t (passes_by truth cs)

-- the values of the items, if the conjuncts hold; none if a result that is reached is out of range
abbrev pub shown_if : Option Bool → Option Row → Option (List Row)
shown_if None row = None
shown_if (Some true) row = with_front row (Some [])
shown_if (Some false) row = Some []
