-- The evaluation of conditions that calculate nothing is never out of range.
use Rattle.std.proofs.Common.{◌≡◌, List, refl, ◌&&◌, IsTrue, Some}
use Rattle.std.proofs.lemmas.Bool.{and_parts}
use Rattle.tql_spec.specs.Datum.{Datum, Row, compare, is_null}
use Rattle.tql_spec.specs.Truth.{Truth, truth_of, negated, and, or}
use Rattle.tql_spec.specs.Period.{predicate, contains_point}
use Rattle.tql_spec.specs.Expression.{Expr, Literal, Column, Negate, Binary, CountRows, Aggregate, Cond, Compare}
use Rattle.tql_spec.specs.Expression.{IsNull, Related, ContainsPoint, Not, And, Or, eval, judge, is_plain, is_safe}

-- an expression that calculates nothing has a value
plain_value : (group : List Row) (row : Row) (e : Expr) → IsTrue (is_plain e)
    → (v : Datum) × (eval group row e ≡ Some v)
plain_value group row (Literal v) h = (v, refl)
plain_value group row (Column i) h = (_, refl)
plain_value group row (Negate e) h = absurd (cc)
plain_value group row (Binary op a b) h = absurd (cc)
plain_value group row CountRows h = absurd (cc)
plain_value group row (Aggregate f e) h = absurd (cc)

-- a condition that calculates nothing has a truth
pub safe_truth : (group : List Row) (row : Row) (c : Cond) → IsTrue (is_safe c)
    → (t : Truth) × (judge group row c ≡ Some t)
safe_truth group row (Compare sign a b) h =
    let p = and_parts (is_plain a) (is_plain b) h in
    let x = plain_value group row a p.0 in
    let y = plain_value group row b p.1 in
    (compare sign x.0 y.0, rw (x.1, y.1))
safe_truth group row (IsNull a) h = let x = plain_value group row a h in (truth_of (is_null x.0), rw x.1)
safe_truth group row (Related which a b c d) h =
    let p = and_parts (is_plain a && is_plain b && is_plain c) (is_plain d) h in
    let q = and_parts (is_plain a && is_plain b) (is_plain c) p.0 in
    let r = and_parts (is_plain a) (is_plain b) q.0 in
    let x = plain_value group row a r.0 in
    let y = plain_value group row b r.1 in
    let z = plain_value group row c q.1 in
    let w = plain_value group row d p.1 in
    (predicate which (x.0, y.0) (z.0, w.0), rw (x.1, y.1, z.1, w.1))
safe_truth group row (ContainsPoint a b c) h =
    let p = and_parts (is_plain a && is_plain b) (is_plain c) h in
    let q = and_parts (is_plain a) (is_plain b) p.0 in
    let x = plain_value group row a q.0 in
    let y = plain_value group row b q.1 in
    let z = plain_value group row c p.1 in
    (contains_point (x.0, y.0) z.0, rw (x.1, y.1, z.1))
safe_truth group row (Not c) h = let t = safe_truth group row c h in (negated t.0, rw t.1)
safe_truth group row (And c d) h =
    let p = and_parts (is_safe c) (is_safe d) h in
    let s = safe_truth group row c p.0 in
    let t = safe_truth group row d p.1 in
    (and s.0 t.0, rw (s.1, t.1))
safe_truth group row (Or c d) h =
    let p = and_parts (is_safe c) (is_safe d) h in
    let s = safe_truth group row c p.0 in
    let t = safe_truth group row d p.1 in
    (or s.0 t.0, rw (s.1, t.1))
