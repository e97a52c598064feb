-- Ranges: a comparison of a column with a literal from below and one from above, as in BETWEEN.
use Rattle.std.specs.Prelude.{◌≡◌, ℕ, ◌^◌, ◌-◌, ℤ, pos, neg_ℤ, ◌+ℤ◌, ◌-ℤ◌, int_lt, Bool, true, false, not, ◌||◌}
use Rattle.std.specs.Prelude.{IsTrue}
use Rattle.std.specs.Prelude.{List, [], ◌∷◌, Option, Some, None, is_some, if◌then◌else◌}
use Rattle.std.specs.List.{find}
use Rattle.tql_spec.specs.Words.{◌>>=◌}
use Rattle.tql_spec.specs.Datum.{Comparison, Equals, Differs, Below, AtMost, Above, AtLeast}
use Rattle.tql_spec.specs.Datum.{Datum, Int, Day, Moment, Row}
use Rattle.tql_spec.specs.Definition.{TableDef, cell}
use Rattle.tql_spec.specs.Expression.{Literal, Column, Cond, Compare, And}
use Rattle.tql_catalog.specs.Sought.{sought_columns}
use Rattle.tql_plan_laws.specs.Conjuncts.{meets}
use Rattle.tql_plan_laws.specs.Constants.{first_said, is_column, literal_of}
use Rattle.tql_plan_laws.specs.Equalities.{or_else}
use Rattle.tql_store_index.specs.Basis.{is_between}
use Rattle.tql_plan_access.specs.Choices.{is_single_of}

-- ---- a comparison of a column with a literal

-- a comparison with its sides exchanged
abbrev pub turned : Comparison → Comparison
turned Equals = Equals
turned Differs = Differs
turned Below = Above
turned AtMost = AtLeast
turned Above = Below
turned AtLeast = AtMost

-- a comparison with a literal, if there is one
abbrev pub with_value : Comparison → Option Datum → Option (Comparison × Datum)
with_value sign None = None
with_value sign (Some v) = Some (sign, v)

-- the comparison of this column with a literal that a condition is, with the column on the left
abbrev pub compared : ℕ → Cond → Option (Comparison × Datum)
compared i (Compare sign x y) =
    if is_column i x then with_value sign (literal_of y)
    else if is_column i y then with_value (turned sign) (literal_of x)
    else None
compared i _ = None

-- ---- a limit from one side

-- whether a comparison limits its left side from below, or else from above
abbrev pub limits : Bool → Comparison → Bool
limits is_low Equals = false
limits is_low Differs = false
limits is_low Below = not is_low
limits is_low AtMost = not is_low
limits is_low Above = is_low
limits is_low AtLeast = is_low

-- the comparison, if it limits from this side
abbrev pub limiting : Bool → Option (Comparison × Datum) → Option (Comparison × Datum)
limiting is_low None = None
limiting is_low (Some b) = if limits is_low b.0 then Some b else None

-- the limit of a column that a condition is, or that the first possible part of an AND is; BETWEEN is such an AND
abbrev pub limit_of : Bool → ℕ → Cond → Option (Comparison × Datum)
limit_of is_low i (And c d) = or_else (limiting is_low (compared i c)) (limiting is_low (compared i d))
limit_of is_low i c = limiting is_low (compared i c)

-- the first limit of a column among conjuncts
abbrev pub limit_in : Bool → ℕ → List Cond → Option (Comparison × Datum)
limit_in is_low i conds = first_said (limit_of is_low i) conds

-- ---- a range

-- two numbers, two days or two moments, as numbers
abbrev pub numbers_of : Datum → Datum → Option (ℤ × ℤ)
numbers_of (Int a) (Int b) = Some (a, b)
numbers_of (Day a) (Day b) = Some (a, b)
numbers_of (Moment a) (Moment b) = Some (a, b)
numbers_of _ _ = None

-- the first number that a limit admits; none if it is outside 64 bits
abbrev pub admitted : Comparison → ℤ → Option ℤ
admitted Above n = if int_lt n (pos (2 ^ 63 - 1)) then Some (n +ℤ pos 1) else None
admitted Below n = if int_lt (neg_ℤ (pos (2 ^ 63))) n then Some (n -ℤ pos 1) else None
admitted _ n = Some n

-- two numbers, if both are there
abbrev pub pair_if : Option ℤ → Option ℤ → Option (ℤ × ℤ)
pair_if None o = None
pair_if (Some a) None = None
pair_if (Some a) (Some b) = Some (a, b)

-- the range between a limit from below and one from above, both ends included
abbrev pub range_between : Comparison × Datum → Comparison × Datum → Option (ℤ × ℤ)
range_between low high =
    numbers_of low.1 high.1 >>= λ ends. pair_if (admitted low.0 ends.0) (admitted high.0 ends.1)

-- the range to which conjuncts limit a column; none if they limit it from one side alone, or by values of two kinds
abbrev pub range_in : ℕ → List Cond → Option (ℤ × ℤ)
range_in i conds = limit_in true i conds >>= λ low. limit_in false i conds >>= λ high. range_between low high

-- the law: in a row that meets the conjuncts, the column has a number, a day or a moment of the range
abbrev pub RangesAreMet : Type 0
RangesAreMet =
    (conds : List Cond) (row : Row) → IsTrue (meets conds row) → (i : ℕ) (low high : ℤ)
    → range_in i conds ≡ Some (low, high) → IsTrue (is_between low high (cell row i))

-- BETWEEN of two literals, and comparisons with two literals on the left
abbrev pub between : ℕ → Datum → Datum → Cond
between i low high = And (Compare AtLeast (Column i) (Literal low)) (Compare AtMost (Column i) (Literal high))

abbrev pub strictly : ℕ → Datum → Datum → List Cond
strictly i low high = Compare Below (Literal low) (Column i) ∷ Compare Above (Literal high) (Column i) ∷ []

-- the law: ranges are found
pub record RangesAreFound : Type 0 where
  pub numbers : (i : ℕ) (low high : ℤ) → range_in i (between i (Int low) (Int high) ∷ []) ≡ Some (low, high)
  pub days : (i : ℕ) (low high : ℤ) → range_in i (between i (Day low) (Day high) ∷ []) ≡ Some (low, high)
  pub moments : (i : ℕ) (low high : ℤ) → range_in i (between i (Moment low) (Moment high) ∷ []) ≡ Some (low, high)
  pub strict : (i : ℕ) (low high : ℤ) → IsTrue (int_lt low (pos (2 ^ 63 - 1)))
      → IsTrue (int_lt (neg_ℤ (pos (2 ^ 63))) high)
      → range_in i (strictly i (Int low) (Int high)) ≡ Some (low +ℤ pos 1, high -ℤ pos 1)

-- ---- the column

-- whether a range has few numbers: at most 1,024
abbrev pub is_narrow : ℤ × ℤ → Bool
is_narrow range = int_lt (range.1 -ℤ range.0) (pos 1_024)

-- the range, if rows are looked up by it: current rows by any, other versions only by a narrow one, since a lookup by a
-- range meets the versions of all times
abbrev pub if_sought_by : Bool → Option (ℤ × ℤ) → Option (ℤ × ℤ)
if_sought_by is_current None = None
if_sought_by is_current (Some range) = if is_current || is_narrow range then Some range else None

-- the range of a column to which conjuncts limit it, if rows are looked up by it
abbrev pub range_given : Bool → ℕ → List Cond → Option (ℤ × ℤ)
range_given is_current i conds = if_sought_by is_current (range_in i conds)

-- whether conjuncts limit a column to such a range
abbrev pub is_ranged : Bool → List Cond → ℕ → Bool
is_ranged is_current conds i = is_some (range_given is_current i conds)

-- the first key or else reference of a table whose only column conjuncts limit to such a range
abbrev pub ranged_in : TableDef → Bool → List Cond → Option (List ℕ)
ranged_in d is_current conds = find (is_single_of (is_ranged is_current conds)) (sought_columns d)
