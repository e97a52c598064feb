-- Conditions that read no generated column, on rows that differ in generated columns only.
use Rattle.std.proofs.Common.{◌≡◌, ℕ, Bool, true, false, not, ◌||◌, List, [], ◌∷◌, ◌++◌, length, refl, ap}
use Rattle.std.specs.Prelude.{pos, Some}
use Rattle.std.specs.List.{list_all}
use Rattle.std.proofs.lemmas.Bool.{and_parts, or_parts}
use Rattle.tql_spec.specs.Words.{◌>>=◌}
use Rattle.tql_spec.specs.Calendar.{high}
use Rattle.tql_spec.specs.Truth.{and, or, negated}
use Rattle.tql_spec.specs.Datum.{Row}
use Rattle.tql_spec.specs.Creation.{has_expr, has_aggregate, uses_column}
use Rattle.tql_spec.specs.Expression.{Expr, Literal, Column, Negate, Binary, CountRows, Aggregate, Cond, Compare}
use Rattle.tql_spec.specs.Expression.{IsNull, Related, ContainsPoint, Not, And, Or, eval, judge, both}
use Rattle.tql_spec.specs.Definition.{TableDef, Stamped, shown, cell}
use Rattle.tql_spec.specs.Binding.{is_generated}
use Rattle.tql_spec.specs.Change.{check_fault}
use Rattle.tql_catalog.specs.Defined.{IsDefinition, is_check}
use Rattle.tql_catalog.proofs.Definitions.{has_its_system}
use Rattle.tql_catalog.proofs.Kept.{kept}
use Rattle.tql_dml.specs.Cells.{unstamped, checks_faults}
use Rattle.tql_dml.proofs.Unstamped.{others_stay}

-- ---- rows that differ only in columns that pass a test

module _ (p : ℕ → Bool) (x y : Row) (alike : (i : ℕ) → p i ≡ false → cell x i ≡ cell y i) where
  abbrev names : Expr → Bool
  names = uses_column p

  same_value : (e : Expr) → names e ≡ false → eval [] x e ≡ eval [] y e
  same_value (Literal v) h = refl
  same_value (Column i) h = ap Some (alike i h)
  same_value (Negate e) h = ap (λ o. o >>= λ v. eval [] x (Negate (Literal v))) (same_value e h)
  same_value (Binary op a b) h =
      let q = or_parts (names a) (names b) h in
      (λ i. same_value a q.0 i >>= λ v. same_value b q.1 i >>= λ w. eval [] x (Binary op (Literal v) (Literal w)))
  same_value CountRows h = refl
  same_value (Aggregate f e) h = refl

  -- a condition without such columns has the same truth value
  same_truth : (c : Cond) → has_expr names c ≡ false → judge [] x c ≡ judge [] y c
  same_truth (Compare s a b) h =
      let q = or_parts (names a) (names b) h in
      (λ i. same_value a q.0 i >>= λ v. same_value b q.1 i >>= λ w. judge [] x (Compare s (Literal v) (Literal w)))
  same_truth (IsNull a) h = ap (λ o. o >>= λ v. judge [] x (IsNull (Literal v))) (same_value a h)
  same_truth (Related r a b c d) h =
      let q = or_parts (names a || names b || names c) (names d) h in
      let s = or_parts (names a || names b) (names c) q.0 in
      let t = or_parts (names a) (names b) s.0 in
      (λ i. same_value a t.0 i >>= λ v. same_value b t.1 i >>= λ w. same_value c s.1 i >>= λ u. same_value d q.1 i
      >>= λ z. judge [] x (Related r (Literal v) (Literal w) (Literal u) (Literal z)))
  same_truth (ContainsPoint a b c) h =
      let q = or_parts (names a || names b) (names c) h in
      let s = or_parts (names a) (names b) q.0 in
      (λ i. same_value a s.0 i >>= λ v. same_value b s.1 i >>= λ w. same_value c q.1 i >>= λ u.
      judge [] x (ContainsPoint (Literal v) (Literal w) (Literal u)))
  same_truth (Not c) h = ap (λ o. o >>= λ t. Some (negated t)) (same_truth c h)
  same_truth (And c d) h =
      let q = or_parts (has_expr names c) (has_expr names d) h in
      (λ i. both and (same_truth c q.0 i) (same_truth d q.1 i))
  same_truth (Or c d) h =
      let q = or_parts (has_expr names c) (has_expr names d) h in
      (λ i. both or (same_truth c q.0 i) (same_truth d q.1 i))

-- ---- the CHECKs of a table

none_generated : (a g : Bool) → not (a || g) ≡ true → g ≡ false
none_generated true g h = absurd cc
none_generated false true h = absurd cc
none_generated false false h = refl

each_law : (d : TableDef) (x y : Row) → ((i : ℕ) → is_generated d i ≡ false → cell x i ≡ cell y i) → (cs : List Cond)
    → list_all (is_check d) cs ≡ true → checks_faults cs x ≡ checks_faults cs y
each_law d x y alike [] h = refl
each_law d x y alike (c ∷ cs) h =
    let p = and_parts (is_check d c) (list_all (is_check d) cs) h in
    let here = same_truth (is_generated d) x y alike c
    (none_generated (has_expr has_aggregate c) (has_expr (uses_column (is_generated d)) c) p.0) in
    (λ i. check_fault (here i) ++ each_law d x y alike cs p.1 i)

-- the CHECKs of a table depend on the stored cells of a row only, whatever the moments in the generated columns
pub checks_law : (d : TableDef) (r : Stamped) → IsDefinition d → length r.cells ≡ length (kept d.system d.columns)
    → checks_faults d.checks (shown d r) ≡ checks_faults d.checks (unstamped d r.cells)
checks_law d r h k =
    each_law d (shown d r) (unstamped d r.cells)
    (λ i g. others_stay d.system d.columns r.cells r.start high (pos 0) high i (has_its_system d h) k g)
    d.checks h.checks
