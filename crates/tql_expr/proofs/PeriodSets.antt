-- Relations of periods that are given by expressions, as relations of sets of points.
use Rattle.std.specs.Prelude.{◌≡◌, ◌↔◌, ℤ, List, Option, Some}
use Rattle.std.proofs.Common.{ap, ◌∙◌}
use Rattle.tql_spec.specs.Words.{◌>>=◌}
use Rattle.tql_spec.specs.Truth.{Truth, True}
use Rattle.tql_spec.specs.Datum.{Datum, Row}
use Rattle.tql_spec.specs.Expression.{Cond, Related, ContainsPoint, judge}
use Rattle.tql_spec.specs.Period.{Relation, Holds, ends, OnSets, predicate, contains_point, FormulasAreSets}
use Rattle.tql_spec.specs.Period.{PointFormulaIsSet}
use Rattle.tql_expr.specs.Sets.{SaysOfPeriods, SaysOfHolding}

-- the truth for four optional values, and for three
abbrev four_values : Relation → Option Datum → Option Datum → Option Datum → Option Datum → Option Truth
four_values which a b c d = do
  xs ← a
  xe ← b
  ys ← c
  ye ← d
  Some (predicate which (xs, xe) (ys, ye))

abbrev three_values : Option Datum → Option Datum → Option Datum → Option Truth
three_values a b p = do
  xs ← a
  xe ← b
  y ← p
  Some (contains_point (xs, xe) y)

-- an answer that is known
there : (t : Truth) (answer : Option Truth) (A : Type 0) → answer ≡ Some t → (t ≡ True) ↔ A → (answer ≡ Some True) ↔ A
there t answer A e law = (λ h. law.0 (cc), λ a. e ∙ ap (λ (u : Truth). Some u) (law.1 a))

pub periods_say : (kind : ℤ → Datum) (group : List Row) (row : Row) (c : Cond) (answer : Option Truth)
    → FormulasAreSets kind → answer ≡ judge group row c → SaysOfPeriods kind group row c answer
periods_say kind group row c answer law is which s e s' e' x y e0 hx hy rx ry =
    let judged : judge group row (Related which s e s' e') ≡ Some (predicate which (ends kind x) (ends kind y)) =
    λ i. four_values which (hx.start i) (hx.end i) (hy.start i) (hy.end i) in
    there (predicate which (ends kind x) (ends kind y)) answer (OnSets which x y) (is ∙ ap (judge group row) e0
    ∙ judged) (law which x y rx ry)

pub holding_says : (kind : ℤ → Datum) (group : List Row) (row : Row) (c : Cond) (answer : Option Truth)
    → PointFormulaIsSet kind → answer ≡ judge group row c → SaysOfHolding kind group row c answer
holding_says kind group row c answer law is s e q x p e0 hx hp =
    let judged : judge group row (ContainsPoint s e q) ≡ Some (contains_point (ends kind x) (kind p)) =
    λ i. three_values (hx.start i) (hx.end i) (hp i) in
    there (contains_point (ends kind x) (kind p)) answer (Holds x p) (is ∙ ap (judge group row) e0 ∙ judged) (law x p)
