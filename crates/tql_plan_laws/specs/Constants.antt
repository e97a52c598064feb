-- Comparisons of a column or a period with literal values in conjuncts.
use Rattle.std.specs.Prelude.{◌≡◌, ℕ, ◌==◌, Bool, false, ◌&&◌, IsTrue, if◌then◌else◌, List, [], ◌∷◌, ℤ}
use Rattle.std.specs.Prelude.{Option, Some, None}
use Rattle.tql_spec.specs.Words.{◌>>=◌, map_all}
use Rattle.tql_spec.specs.Datum.{Datum, Day, Moment, Row, Kind, Equals}
use Rattle.tql_spec.specs.Creation.{are_ends}
use Rattle.tql_spec.specs.Typing.{IsOfKind}
use Rattle.tql_spec.specs.Definition.{cell, period_between}
use Rattle.tql_spec.specs.Period.{Period, rises, holds, share_a_point, where_rising, Overlaps}
use Rattle.tql_spec.specs.Expression.{Expr, Literal, Column, Negate, Binary, CountRows, Aggregate, Cond, Compare}
use Rattle.tql_spec.specs.Expression.{Related, ContainsPoint}
use Rattle.tql_plan_laws.specs.Conjuncts.{meets}
use Rattle.tql_plan_laws.specs.Equalities.{or_else, agree}

-- the value of a literal
abbrev pub literal_of : Expr → Option Datum
literal_of (Literal v) = Some v
literal_of (Column i) = None
literal_of (Negate e) = None
literal_of (Binary op a b) = None
literal_of CountRows = None
literal_of (Aggregate f e) = None

-- whether an expression is this column
abbrev pub is_column : ℕ → Expr → Bool
is_column i (Column j) = i == j
is_column i (Literal v) = false
is_column i (Negate e) = false
is_column i (Binary op a b) = false
is_column i CountRows = false
is_column i (Aggregate f e) = false

-- the result of a test for the first conjunct for which it has one
abbrev pub first_said : {A : Type 0} → (Cond → Option A) → List Cond → Option A
first_said says [] = None
first_said says (c ∷ cs) = or_else (says c) (first_said says cs)

-- ---- a value in a column

-- the value to which a condition equates this column
abbrev pub value_of : ℕ → Cond → Option Datum
value_of i (Compare Equals x y) =
    if is_column i x then literal_of y else if is_column i y then literal_of x else None
value_of i _ = None

-- the value from the first conjunct that equates this column with one
abbrev pub value_in : ℕ → List Cond → Option Datum
value_in i conds = first_said (value_of i) conds

-- the values to which conjuncts equate these columns, if there is one for each
abbrev pub tuple_in : List Cond → List ℕ → Option (List Datum)
tuple_in conds columns = map_all (λ i. value_in i conds) columns

-- the law: in a row that meets the conjuncts, the column is equal to the value that they give it
abbrev pub ValuesAreMet : Type 0
ValuesAreMet =
    (conds : List Cond) (row : Row) → IsTrue (meets conds row) → (i : ℕ) (v : Datum) → value_in i conds ≡ Some v
    → IsTrue (agree (cell row i) v)

-- ---- a point or a period compared with the period between two columns

-- the point that a value is, if any
abbrev pub point_if : Datum → Option ℤ
point_if (Day d) = Some d
point_if (Moment m) = Some m
point_if _ = None

-- the same, if the value is known
abbrev pub point_from : Option Datum → Option ℤ
point_from v = v >>= point_if

-- the period between two dates or two timestamps, if it rises
abbrev pub stretch_if : Datum → Datum → Option Period
stretch_if (Day a) (Day b) = where_rising (record { start = a; end = b })
stretch_if (Moment a) (Moment b) = where_rising (record { start = a; end = b })
stretch_if _ _ = None

-- the same, if both values are known
abbrev pub stretch_between : Option Datum → Option Datum → Option Period
stretch_between l r = l >>= λ v. r >>= λ w. stretch_if v w

-- the point that a condition requires the period between these two columns to contain
abbrev pub point_said : ℕ → ℕ → Cond → Option ℤ
point_said a b (ContainsPoint x y p) =
    if is_column a x && is_column b y then point_from (literal_of p) else None
point_said a b _ = None

-- the period that a condition requires the period between these two columns to overlap
abbrev pub stretch_said : ℕ → ℕ → Cond → Option Period
stretch_said a b (Related Overlaps x y l r) =
    if is_column a x && is_column b y then stretch_between (literal_of l) (literal_of r) else None
stretch_said a b _ = None

-- the first of these requirements among the conjuncts
abbrev pub point_in : ℕ → ℕ → List Cond → Option ℤ
point_in a b conds = first_said (point_said a b) conds

abbrev pub stretch_in : ℕ → ℕ → List Cond → Option Period
stretch_in a b conds = first_said (stretch_said a b) conds

-- the cells of two columns are points of the same kind, or null
pub record ArePoints (row : Row) (a b : ℕ) : Type 0 where
  pub kind : Kind
  pub of_points : IsTrue (are_ends kind kind)
  pub start : IsOfKind (Some kind) (cell row a)
  pub end : IsOfKind (Some kind) (cell row b)

-- the law: if the conjuncts require a point, and the two columns have points, the period between them contains that
-- point in each row that meets the conjuncts
abbrev pub PointsAreMet : Type 0
PointsAreMet =
    (conds : List Cond) (row : Row) → IsTrue (meets conds row) → (a b : ℕ) (p : ℤ) → ArePoints row a b
    → point_in a b conds ≡ Some p → IsTrue (holds (period_between row a b) p)

-- the law: if that period rises, it overlaps the period that the conjuncts require
abbrev pub StretchesAreMet : Type 0
StretchesAreMet =
    (conds : List Cond) (row : Row) → IsTrue (meets conds row) → (a b : ℕ) (x : Period) → ArePoints row a b
    → IsTrue (rises (period_between row a b)) → stretch_in a b conds ≡ Some x
    → IsTrue (share_a_point (period_between row a b) x)

-- ---- finding the comparisons

-- the law: the comparisons are found, with the value on either side, for dates and timestamps alike
pub record ConstantsAreFound : Type 0 where
  pub near : (i : ℕ) (v : Datum) → value_in i (Compare Equals (Column i) (Literal v) ∷ []) ≡ Some v
  pub far : (i : ℕ) (v : Datum) → value_in i (Compare Equals (Literal v) (Column i) ∷ []) ≡ Some v
  pub day : (a b : ℕ) (p : ℤ) → point_in a b (ContainsPoint (Column a) (Column b) (Literal (Day p)) ∷ []) ≡ Some p
  pub moment : (a b : ℕ) (p : ℤ)
      → point_in a b (ContainsPoint (Column a) (Column b) (Literal (Moment p)) ∷ []) ≡ Some p
  pub days : (a b : ℕ) (x : Period) → IsTrue (rises x)
      → stretch_in a b (Related Overlaps (Column a) (Column b) (Literal (Day x.start)) (Literal (Day x.end)) ∷ [])
      ≡ Some x
  pub moments : (a b : ℕ) (x : Period) → IsTrue (rises x)
      → stretch_in a b
      (Related Overlaps (Column a) (Column b) (Literal (Moment x.start)) (Literal (Moment x.end)) ∷ []) ≡ Some x
