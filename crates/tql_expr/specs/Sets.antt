-- What relations say about periods as sets of points.
use Rattle.std.specs.Prelude.{◌≡◌, ◌↔◌, IsTrue, ℤ, List, Option, Some}
use Rattle.tql_spec.specs.Truth.{Truth, True}
use Rattle.tql_spec.specs.Datum.{Datum, Row}
use Rattle.tql_spec.specs.Expression.{Expr, Cond, Related, ContainsPoint, eval}
use Rattle.tql_spec.specs.Period.{Period, Relation, Holds, rises, OnSets}

-- two expressions give the ends of a period, as values of one kind
pub record AreEndsOf (kind : ℤ → Datum) (group : List Row) (row : Row) (s e : Expr) (x : Period) : Type 0 where
  pub start : eval group row s ≡ Some (kind x.start)
  pub end : eval group row e ≡ Some (kind x.end)

-- a relation of two periods that start before they end is true exactly if it holds for their sets of points
abbrev pub SaysOfPeriods : (ℤ → Datum) → List Row → Row → Cond → Option Truth → Type 0
SaysOfPeriods kind group row c answer = (which : Relation) (s e s' e' : Expr) (x y : Period)
    → c ≡ Related which s e s' e'
    → AreEndsOf kind group row s e x → AreEndsOf kind group row s' e' y → IsTrue (rises x) → IsTrue (rises y)
    → (answer ≡ Some True) ↔ OnSets which x y

-- CONTAINS with a point is true exactly if the period contains it
abbrev pub SaysOfHolding : (ℤ → Datum) → List Row → Row → Cond → Option Truth → Type 0
SaysOfHolding kind group row c answer = (s e q : Expr) (x : Period) (p : ℤ) → c ≡ ContainsPoint s e q
    → AreEndsOf kind group row s e x → eval group row q ≡ Some (kind p) → (answer ≡ Some True) ↔ Holds x p
