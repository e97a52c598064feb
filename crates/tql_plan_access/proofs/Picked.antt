-- Choices of a column's values: what they are, and that a row that meets one has one of the values.
use Rattle.std.proofs.Common.{◌≡◌, ◌∙◌, refl, sym, ap, subst, ℕ, ◌<◌, Bool, true, false, ◌&&◌, List, [], ◌∷◌}
use Rattle.std.proofs.Common.{length, get_or, inl, inr, arith}
use Rattle.std.specs.Prelude.{◌⊎◌, ◌||◌, ℤ, not, nat_lt, Option, Some, None, is_some, option_map}
use Rattle.std.specs.List.{find, list_all, list_any}
use Rattle.std.proofs.lemmas.Bool.{and_parts}
use Rattle.std.proofs.lemmas.Bool.Decides.{nat_tests}
use Rattle.tql_spec.specs.Datum.{Datum, Row}
use Rattle.tql_spec.specs.Truth.{Truth, False, Unknown, True, or}
use Rattle.tql_spec.specs.Definition.{TableDef, cell, with_generated}
use Rattle.tql_spec.specs.Binding.{is_generated}
use Rattle.tql_spec.specs.Expression.{Cond, Compare, IsNull, Related, ContainsPoint, Not, And, Or, both}
use Rattle.tql_spec.specs.Expression.{judge}
use Rattle.tql_catalog.specs.Defined.{IsDefinition}
use Rattle.tql_catalog.specs.Rows.{IsStoredAt, are_assignable, numbers_repeat}
use Rattle.tql_catalog.specs.Sought.{sought_columns}
use Rattle.tql_plan_laws.specs.Conjuncts.{is_sure, meets}
use Rattle.tql_plan_laws.specs.Constants.{ValuesAreMet, value_of}
use Rattle.tql_plan_laws.specs.Equalities.{agree, or_else}
use Rattle.tql_plan_access.specs.Access.{IsRow, period_columns, safe_part}
use Rattle.tql_plan_access.specs.Alternatives.{AreChosenBy, ServesAny, has_any, values_of}
use Rattle.tql_plan_access.specs.Choices.{agrees_if, choice_in, chooses, is_choice, is_chosen, is_equated}
use Rattle.tql_plan_access.specs.declared.alternatives.Alternatives.{Alternatives}
use Rattle.tql_plan_access.proofs.ByKey.{stored_long}
use Rattle.tql_plan_access.proofs.GivenLists.{all_assignable, first_is}

-- ---- comparisons with a literal

-- what a comparison with a literal chooses is the literal
pub equated_chosen : (i : ℕ) (c : Cond) → is_equated i c ≡ true → (x : Datum)
    → is_chosen i c x ≡ agrees_if x (value_of i c)
equated_chosen i (Compare s a b) h x = refl
equated_chosen i (IsNull a) h x = refl
equated_chosen i (Related w a b c d) h x = refl
equated_chosen i (ContainsPoint a b c) h x = refl
equated_chosen i (Not c) h x = refl
equated_chosen i (And c d) h x = refl
equated_chosen i (Or c d) h x = absurd (cc)

-- a comparison with a literal is a choice
pub equated_choice : (i : ℕ) (c : Cond) → is_equated i c ≡ true → is_choice i c ≡ true
equated_choice i (Compare s a b) h = h
equated_choice i (IsNull a) h = h
equated_choice i (Related w a b c d) h = h
equated_choice i (ContainsPoint a b c) h = h
equated_choice i (Not c) h = h
equated_choice i (And c d) h = h
equated_choice i (Or c d) h = absurd (cc)

or_back : (a b : Bool) → (a || b) ≡ (b || a)
or_back true true = refl
or_back true false = refl
or_back false true = refl
or_back false false = refl

-- what an OR chooses whose second part is a comparison with a literal
pub second_chosen : (i : ℕ) (c d : Cond) (v : Datum) → value_of i d ≡ Some v → (x : Datum)
    → is_chosen i (Or c d) x ≡ (agree x v || is_chosen i c x)
second_chosen i c d v e x =
    or_back (is_chosen i c x) (is_chosen i d x)
    ∙ ap (λ b. b || is_chosen i c x) (equated_chosen i d (ap is_some e) x ∙ ap (agrees_if x) e)

pub or_three : (a b c : Bool) → ((a || b) || c) ≡ (a || (b || c))
or_three true b c = refl
or_three false b c = refl

-- ---- the parts of a choice

or_parts : (a b c d : Bool) → (a && b) || (c && d) ≡ true → (a ≡ true → c ≡ true) → (d ≡ true → b ≡ true)
    → (c ≡ true) × (b ≡ true)
or_parts true true c d h f g = (f refl, refl)
or_parts true false true d h f g = (refl, g h)
or_parts true false false d h f g = absurd (cc)
or_parts false b true d h f g = (refl, g h)
or_parts false b false d h f g = absurd (cc)

-- both parts of a choice are choices
pub choice_parts : (i : ℕ) (c d : Cond) → is_choice i (Or c d) ≡ true → (is_choice i c ≡ true) × (is_choice i d ≡ true)
choice_parts i c d h =
    or_parts (is_equated i c) (is_choice i d) (is_choice i c) (is_equated i d) h (equated_choice i c)
    (equated_choice i d)

-- ---- rows that meet a choice

some_sure : (o p : Option Truth) → is_sure (both or o p) ≡ true → (is_sure o ≡ true) ⊎ (is_sure p ≡ true)
some_sure None p h = absurd (cc)
some_sure (Some a) None h = absurd (cc)
some_sure (Some True) (Some b) h = inl refl
some_sure (Some False) (Some b) h = inr h
some_sure (Some Unknown) (Some False) h = absurd (cc)
some_sure (Some Unknown) (Some Unknown) h = absurd (cc)
some_sure (Some Unknown) (Some True) h = inr refl

or_left : (a b : Bool) → a ≡ true → (a || b) ≡ true
or_left true b h = refl
or_left false b h = absurd (cc)

or_right : (a b : Bool) → b ≡ true → (a || b) ≡ true
or_right true b h = refl
or_right false b h = h

or_none : (o : Option Datum) → or_else o None ≡ o
or_none None = refl
or_none (Some v) = refl

module _ (law : ValuesAreMet) (row : Row) (i : ℕ) where
  -- a row that meets a comparison has the literal
  equated_met : (c : Cond) → is_equated i c ≡ true → is_sure (judge [] row c) ≡ true
      → agrees_if (cell row i) (value_of i c) ≡ true
  equated_met c h s = by_value (value_of i c) refl h
    where
      by_value : (o : Option Datum) → value_of i c ≡ o → is_some o ≡ true → agrees_if (cell row i) o ≡ true
      by_value None e k = absurd (cc)
      by_value (Some v) e k =
          law (c ∷ []) row (ap (λ b. b && true) s) i v (or_none (value_of i c) ∙ e)

  -- a row that meets a choice has one of its values
  pub choice_met : (c : Cond) → is_choice i c ≡ true → is_sure (judge [] row c) ≡ true
      → is_chosen i c (cell row i) ≡ true
  choice_met (Compare s a b) h m = equated_met (Compare s a b) h m
  choice_met (IsNull a) h m = equated_met (IsNull a) h m
  choice_met (Related w a b c d) h m = equated_met (Related w a b c d) h m
  choice_met (ContainsPoint a b c) h m = equated_met (ContainsPoint a b c) h m
  choice_met (Not c) h m = equated_met (Not c) h m
  choice_met (And c d) h m = equated_met (And c d) h m
  choice_met (Or c d) h m =
      by_part (is_sure (judge [] row c) ≡ true) (is_sure (judge [] row d) ≡ true)
      (some_sure (judge [] row c) (judge [] row d) m)
      (λ s. or_left (is_chosen i c (cell row i)) (is_chosen i d (cell row i))
      (choice_met c (choice_parts i c d h).0 s))
      (λ s. or_right (is_chosen i c (cell row i)) (is_chosen i d (cell row i))
      (choice_met d (choice_parts i c d h).1 s))
    where
      by_part : (P Q : Type 0) → P ⊎ Q
          → (P → (is_chosen i c (cell row i) || is_chosen i d (cell row i)) ≡ true)
          → (Q → (is_chosen i c (cell row i) || is_chosen i d (cell row i)) ≡ true)
          → (is_chosen i c (cell row i) || is_chosen i d (cell row i)) ≡ true
      by_part P Q (inl s) f g = f s
      by_part P Q (inr s) f g = g s

-- ---- the first choice among conjuncts

module _ (d : TableDef) where
  by_said : (c : Cond) (o : Option (List ℕ)) (rest : Option (Cond × List ℕ)) (p : Cond × List ℕ) (P : Type 0)
      → or_else (option_map (λ is. (c, is)) o) rest ≡ Some p → (o ≡ Some p.1 → c ≡ p.0 → P) → (rest ≡ Some p → P)
      → P
  by_said c None rest p P e here later = later e
  by_said c (Some is) rest p P e here later =
      let same : (c, is) ≡ p = cc in
      here (ap (λ (q : Cond × List ℕ). Some q.1) same) (ap (λ (q : Cond × List ℕ). q.0) same)

  -- the columns that are found for it are the first that it chooses
  pub choice_found : (conds : List Cond) (p : Cond × List ℕ) → choice_in d conds ≡ Some p
      → find (chooses p.0) (sought_columns d) ≡ Some p.1
  choice_found [] p e = absurd (cc)
  choice_found (c ∷ cs) p e =
      by_said c (find (chooses c) (sought_columns d)) (choice_in d cs) p
      (find (chooses p.0) (sought_columns d) ≡ Some p.1) e
      (λ k same. subst (λ (b : Cond). find (chooses b) (sought_columns d) ≡ Some p.1) same k)
      (λ k. choice_found cs p k)

  -- a row that meets the conjuncts meets it
  pub choice_sure : (conds : List Cond) (p : Cond × List ℕ) → choice_in d conds ≡ Some p → (row : Row)
      → meets conds row ≡ true → is_sure (judge [] row p.0) ≡ true
  choice_sure [] p e row m = absurd (cc)
  choice_sure (c ∷ cs) p e row m =
      let parts = and_parts (is_sure (judge [] row c)) (meets cs row) m in
      by_said c (find (chooses c) (sought_columns d)) (choice_in d cs) p (is_sure (judge [] row p.0) ≡ true) e
      (λ k same. subst (λ (b : Cond). is_sure (judge [] row b) ≡ true) same parts.0)
      (λ k. choice_sure cs p k row parts.1)

  -- its columns are chosen, and can be looked up
  pub choice_there : IsDefinition d → (conds : List Cond) (p : Cond × List ℕ) → choice_in d conds ≡ Some p
      → (are_assignable d p.1 ≡ true) × (chooses p.0 p.1 ≡ true)
  choice_there right conds p e =
      first_is (chooses p.0) (are_assignable d) (sought_columns d) p.1 (all_assignable d right)
      (choice_found conds p e)

-- ---- the only column

-- the first column
abbrev pub first_in : List ℕ → ℕ
first_in is = get_or is 0 0

pub only_one : (c : Cond) (is : List ℕ) → chooses c is ≡ true → is ≡ first_in is ∷ []
only_one c [] h = absurd (cc)
only_one c (i ∷ []) h = refl
only_one c (i ∷ j ∷ is) h = absurd (cc)

pub only_choice : (c : Cond) (is : List ℕ) → chooses c is ≡ true → is_choice (first_in is) c ≡ true
only_choice c [] h = absurd (cc)
only_choice c (i ∷ []) h = h
only_choice c (i ∷ j ∷ is) h = absurd (cc)

-- it is a column of the table, and not generated
pub only_assignable : (d : TableDef) (c : Cond) (is : List ℕ) → chooses c is ≡ true → are_assignable d is ≡ true
    → (first_in is < length d.columns) × (is_generated d (first_in is) ≡ false)
only_assignable d c [] h a = absurd (cc)
only_assignable d c (i ∷ j ∷ is) h a = absurd (cc)
only_assignable d c (i ∷ []) h a =
    let p = and_parts (list_all (λ k. nat_lt k (length d.columns) && not (is_generated d k)) (i ∷ []))
    (not (numbers_repeat (i ∷ []))) a in
    let q = and_parts (nat_lt i (length d.columns) && not (is_generated d i)) true p.0 in
    let r = and_parts (nat_lt i (length d.columns)) (not (is_generated d i)) q.0 in
    (grind (arith, nat_tests, r.0), not_true (is_generated d i) r.1)
  where
    not_true : (b : Bool) → not b ≡ true → b ≡ false
    not_true true k = absurd (cc)
    not_true false k = refl

-- ---- rows that are looked at

module _ (column : ℕ) (cells : Row) where
  with_true : (b : Bool) → b ≡ (b && true)
  with_true true = refl
  with_true false = refl

  pub any_at : (values : List Datum) → list_any (agree (cell cells column)) values ≡ has_any column values cells
  any_at [] = refl
  any_at (v ∷ vs) = (λ k. with_true (agree (cell cells column) v) k || any_at vs k)

-- a row that meets the conjuncts has one of the values of their first choice
module _ (law : ValuesAreMet) (d : TableDef) (right : IsDefinition d) (conds : List Cond) (p : Cond × List ℕ)
    (e : choice_in d (safe_part conds) ≡ Some p) (a : Alternatives) (h : AreChosenBy d p.0 p.1 a) where
  chooses_it : is_choice h.column p.0 ≡ true
  chooses_it = subst (λ is. chooses p.0 is ≡ true) h.only (choice_there d right (safe_part conds) p e).1

  met_found : (cells : Row) (start end : ℤ)
      → IsRow (period_columns d) (length d.columns) (with_generated d.system cells start end)
      → meets (safe_part conds) (with_generated d.system cells start end) ≡ true
      → has_any a.column (values_of a) cells ≡ true
  met_found cells start end r m =
      let row = with_generated d.system cells start end in
      let here : cell row h.column ≡ cell cells a.column =
      h.stored cells start end (stored_long d right cells start end r.wide) in
      sym (any_at a.column cells (values_of a))
      ∙ h.each (cell cells a.column)
      ∙ subst (λ x. is_chosen h.column p.0 x ≡ true) here
      (choice_met law row h.column p.0 chooses_it (choice_sure d (safe_part conds) p e row m))

  pub choice_serves : ServesAny d.system (period_columns d) (length d.columns) conds a.column (values_of a)
  choice_serves = record { all = met_found }

-- what is found at the only column of a choice
pub made_by : (d : TableDef) (c : Cond) (is : List ℕ) (a : Alternatives) (stored : ℕ) → chooses c is ≡ true
    → IsStoredAt d (first_in is) stored → a.column ≡ stored
    → ((x : Datum) → list_any (agree x) (values_of a) ≡ is_chosen (first_in is) c x) → AreChosenBy d c is a
made_by d c is a stored h at same each = record {
  column = first_in is;
  only = only_one c is h;
  stored = subst (IsStoredAt d (first_in is)) (sym same) at;
  each = each;
}
