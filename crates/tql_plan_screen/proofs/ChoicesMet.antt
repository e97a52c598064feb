-- Choices of a column's values: a row meets one exactly if it has one of the values.
use Rattle.std.proofs.Common.{◌≡◌, ◌∙◌, refl, sym, ap, ℕ, true, ◌&&◌, [], inl, inr, ⊎_elim}
use Rattle.std.specs.Prelude.{◌⊎◌, ◌||◌, Option, Some, None, is_some}
use Rattle.std.proofs.lemmas.Bool.{and_parts, or_cases}
use Rattle.tql_spec.specs.Datum.{Datum, Row, Equals}
use Rattle.tql_spec.specs.Definition.{cell}
use Rattle.tql_spec.specs.Expression.{Cond, Compare, IsNull, Related, ContainsPoint, Not, And, Or}
use Rattle.tql_spec.specs.Expression.{SafeConditionsAreJudged}
use Rattle.tql_spec.specs.Expression.{both, is_safe, judge}
use Rattle.tql_spec.specs.Truth.{Truth, False, Unknown, True, is_true, or}
use Rattle.tql_plan_laws.specs.Conjuncts.{is_sure}
use Rattle.tql_plan_laws.specs.Constants.{value_of}
use Rattle.tql_plan_laws.specs.Equalities.{or_else}
use Rattle.tql_plan_access.specs.Choices.{agrees_if, is_choice, is_chosen, is_equated}
use Rattle.tql_plan_access.proofs.Picked.{choice_parts}
use Rattle.tql_plan_screen.specs.Coded.{chosen_column, compared_column}
use Rattle.tql_plan_screen.specs.Screens.{Compares, is_compared}
use Rattle.tql_plan_screen.proofs.Comparisons.{comparison_met, compared_safe, compared_there, equality_found}
use Rattle.tql_plan_screen.proofs.Comparisons.{equated_compared}

-- a choice calculates nothing
pub choice_safe : (i : ℕ) (c : Cond) → is_choice i c ≡ true → is_safe c ≡ true
choice_safe i (Compare s a b) h = compared_safe i (Compare s a b) (equated_compared i (Compare s a b) h)
choice_safe i (IsNull a) h = compared_safe i (IsNull a) (equated_compared i (IsNull a) h)
choice_safe i (Related w a b c d) h =
    compared_safe i (Related w a b c d) (equated_compared i (Related w a b c d) h)
choice_safe i (ContainsPoint a b c) h =
    compared_safe i (ContainsPoint a b c) (equated_compared i (ContainsPoint a b c) h)
choice_safe i (Not c) h = compared_safe i (Not c) (equated_compared i (Not c) h)
choice_safe i (And c d) h = compared_safe i (And c d) (equated_compared i (And c d) h)
choice_safe i (Or c d) h =
    let p = choice_parts i c d h in
    ap (λ b. b && is_safe d) (choice_safe i c p.0) ∙ choice_safe i d p.1

-- ---- the rows that meet one

or_sure : (s t : Truth) → is_true (or s t) ≡ (is_true s || is_true t)
or_sure False t = refl
or_sure Unknown False = refl
or_sure Unknown Unknown = refl
or_sure Unknown True = refl
or_sure True t = refl

both_sure : (o p : Option Truth) (s t : Truth) → o ≡ Some s → p ≡ Some t
    → is_sure (both or o p) ≡ (is_sure o || is_sure p)
both_sure o p s t h k =
    (λ i. is_sure (both or (h i) (k i))) ∙ or_sure s t ∙ sym (λ i. is_sure (h i) || is_sure (k i))

module _ (law : SafeConditionsAreJudged) (row : Row) (i : ℕ) where
  equated_sure : (c : Cond) → is_equated i c ≡ true
      → is_sure (judge [] row c) ≡ agrees_if (cell row i) (value_of i c)
  equated_sure c h = by_value (value_of i c) refl h
    where
      by_value : (o : Option Datum) → value_of i c ≡ o → is_some o ≡ true
          → is_sure (judge [] row c) ≡ agrees_if (cell row i) o
      by_value None e k = absurd (cc)
      by_value (Some v) e k = sym (comparison_met c (Compares i Equals v) (equality_found i c v e) row)

  pub choice_sure : (c : Cond) → is_choice i c ≡ true → is_sure (judge [] row c) ≡ is_chosen i c (cell row i)
  choice_sure (Compare s a b) h = equated_sure (Compare s a b) h
  choice_sure (IsNull a) h = equated_sure (IsNull a) h
  choice_sure (Related w a b c d) h = equated_sure (Related w a b c d) h
  choice_sure (ContainsPoint a b c) h = equated_sure (ContainsPoint a b c) h
  choice_sure (Not c) h = equated_sure (Not c) h
  choice_sure (And c d) h = equated_sure (And c d) h
  choice_sure (Or c d) h =
      let p = choice_parts i c d h in
      let s = law [] row c (choice_safe i c p.0) in
      let t = law [] row d (choice_safe i d p.1) in
      both_sure (judge [] row c) (judge [] row d) s.0 t.0 s.1 t.1
      ∙ (λ j. choice_sure c p.0 j || choice_sure d p.1 j)

-- ---- the column of one

-- a condition whose column is compared with a literal is a choice of that column alone
only_compared : (i k : ℕ) (c : Cond) → compared_column c ≡ Some k → is_choice i c ≡ true → compared_column c ≡ Some i
only_compared i k (Compare s a b) e h = compared_there i (Compare s a b) (equated_compared i (Compare s a b) h)
only_compared i k (IsNull a) e h = absurd (cc)
only_compared i k (Related w a b c d) e h = absurd (cc)
only_compared i k (ContainsPoint a b c) e h = absurd (cc)
only_compared i k (Not c) e h = absurd (cc)
only_compared i k (And c d) e h = absurd (cc)
only_compared i k (Or c d) e h = absurd (cc)

-- the column of a choice is that of its equalities
pub chosen_there : (i : ℕ) (c : Cond) → is_choice i c ≡ true
    → (chosen_column c ≡ Some i) ⊎ (is_compared i c ≡ true)
chosen_there i (Compare s a b) h = inr (equated_compared i (Compare s a b) h)
chosen_there i (IsNull a) h = inr (equated_compared i (IsNull a) h)
chosen_there i (Related w a b c d) h = inr (equated_compared i (Related w a b c d) h)
chosen_there i (ContainsPoint a b c) h = inr (equated_compared i (ContainsPoint a b c) h)
chosen_there i (Not c) h = inr (equated_compared i (Not c) h)
chosen_there i (And c d) h = inr (equated_compared i (And c d) h)
chosen_there i (Or c d) h = inl (by_first (compared_column c) refl)
  where
    same : (k : ℕ) → compared_column c ≡ Some k → Some k ≡ Some i
    same k e = sym e ∙ only_compared i k c e (choice_parts i c d h).0

    second : compared_column c ≡ None → compared_column d ≡ Some i
    second e = ⊎_elim
        (λ l. absurd (let q : None ≡ Some i = sym e
        ∙ compared_there i c (equated_compared i c (and_parts (is_equated i c) (is_choice i d) l).0) in cc))
        (λ r. compared_there i d (equated_compared i d (and_parts (is_choice i c) (is_equated i d) r).1))
        (or_cases (is_equated i c && is_choice i d) (is_choice i c && is_equated i d) h)

    by_first : (o : Option ℕ) → compared_column c ≡ o → or_else (compared_column c) (compared_column d) ≡ Some i
    by_first (Some k) e = ap (λ o. or_else o (compared_column d)) e ∙ same k e
    by_first None e = ap (λ o. or_else o (compared_column d)) e ∙ second e
