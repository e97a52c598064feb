-- Coverage of a period, point by point, from the law of its test.
use Rattle.std.proofs.Common.{◌≡◌, ◌<◌, refl, sym, ap, ◌∙◌, subst, ℕ, zero, suc, Bool, true, false, List, [], ◌∷◌}
use Rattle.std.proofs.Common.{◌++◌, length, arith, inl, inr}
use Rattle.std.specs.Prelude.{◌||◌, ℤ, Some, Contains, get_or}
use Rattle.std.specs.List.{list_any}
use Rattle.std.proofs.lemmas.Int.{ints}
use Rattle.tql_spec.specs.Datum.{Day, Row}
use Rattle.tql_spec.specs.Period.{Period, Holds, holds}
use Rattle.tql_spec.specs.Definition.{TableDef, Reference, no_table, period_of}
use Rattle.tql_spec.specs.Constraint.{ReferenceTestIsRight, covered, held_at, is_met_by, reference_holds}
use Rattle.tql_spec.specs.Constraint.{ReferenceHolds, parents_of}
use Rattle.tql_spec.proofs.Members.{by_bool}
use Rattle.tql_key_rows.proofs.Bools.{and_yes}

-- ---- a table and a reference with one row, to apply the law to a single period

abbrev whole_table : TableDef
whole_table = record no_table { application = Some (record { name = []; start = 0; end = 1 }) }

abbrev whole_row : Period → Row
whole_row x = Day x.start ∷ Day x.end ∷ []

abbrev to_all : Reference
to_all = record { columns = []; by_period = true; parent = []; parent_columns = [] }

all_of : (ps : List Row) (x : Period) → parents_of to_all ps (whole_row x) ≡ ps
all_of [] x = refl
all_of (p ∷ ps) x = ap {B = List Row} (λ rs. p ∷ rs) (all_of ps x)

test_of : (parent : TableDef) (ps : List Row) (x : Period)
    → reference_holds whole_table parent to_all ps (whole_row x ∷ []) ≡ covered parent ps x
test_of parent ps x = and_yes (covered parent (parents_of to_all ps (whole_row x)) x)
    ∙ ap (λ rs. covered parent rs x) (all_of ps x)

-- ---- members that pass

passes : {A : Type 0} (t : A → Bool) (xs : List A) (x : A) → (k : ℕ) → k < length xs → get_or xs k x ≡ x → t x ≡ true
    → list_any t xs ≡ true
passes t [] x k l e h = absurd (omega (arith, l))
passes t (y ∷ xs) x zero l e h = ap (λ b. b || list_any t xs) (ap t e ∙ h)
passes t (y ∷ xs) x (suc k) l e h = ap (λ b. t y || b) (passes t xs x k (omega (arith, l)) e h) ∙ yes (t y)
  where
    yes : (b : Bool) → b || true ≡ true
    yes true = refl
    yes false = refl

holds_if : (x : Period) (p : ℤ) → Holds x p → holds x p ≡ true
holds_if x p h = grind (arith, ints, h.0, h.1)

if_holds : (x : Period) (p : ℤ) → holds x p ≡ true → Holds x p
if_holds x p e = (grind (arith, ints), grind (arith, ints))

-- some row of a list has a period that holds the point
abbrev Held : TableDef → List Row → ℤ → Type 0
Held parent ps p = (s : Row) × Contains ps s × Holds (period_of parent s) p

held_front : (parent : TableDef) (s : Row) (ps : List Row) (p : ℤ) → Held parent ps p → Held parent (s ∷ ps) p
held_front parent s ps p h = (h.0, (suc h.1.0, omega (arith, h.1.1), h.1.2), h.2)

held_by : (parent : TableDef) (ps : List Row) (p : ℤ) → held_at parent ps p ≡ true → Held parent ps p
held_by parent [] p e = absurd (cc)
held_by parent (s ∷ ps) p e = by_bool (holds (period_of parent s) p)
    (λ h. (s, (zero, omega arith, refl), if_holds (period_of parent s) p h))
    (λ n. held_front parent s ps p (held_by parent ps p (sym (ap (λ b. b || held_at parent ps p) n) ∙ e)))

-- ---- coverage

-- if a period is covered, each of its points is held
pub covered_says : ReferenceTestIsRight → (parent : TableDef) (ps : List Row) (x : Period) → covered parent ps x ≡ true
    → (p : ℤ) → Holds x p → held_at parent ps p ≡ true
covered_says law parent ps x e p h =
    let said : ReferenceHolds whole_table parent to_all ps (whole_row x ∷ []) =
    (law whole_table parent to_all ps (whole_row x ∷ [])).0 (test_of parent ps x ∙ e) in
    elim (said 0 (whole_row x) (omega arith)) [
      | inl n ↦ absurd (cc)
      | inr m ↦ at_point (m p h)
    ]
  where
    at_point : (s : Row) × Contains (parents_of to_all ps (whole_row x)) s × Holds (period_of parent s) p
        → held_at parent ps p ≡ true
    at_point m =
        let c : Contains ps m.0 = subst (λ (rs : List Row). Contains rs m.0) (all_of ps x) m.1 in
        passes (λ s. holds (period_of parent s) p) ps m.0 c.0 c.1 c.2 (holds_if (period_of parent m.0) p m.2)

-- the converse
pub covered_if : ReferenceTestIsRight → (parent : TableDef) (ps : List Row) (x : Period)
    → ((p : ℤ) → Holds x p → held_at parent ps p ≡ true) → covered parent ps x ≡ true
covered_if law parent ps x h =
    sym (test_of parent ps x)
    ∙ (law whole_table parent to_all ps (whole_row x ∷ [])).1 each
  where
    one : (p : ℤ) → Holds x p
        → (s : Row) × Contains (parents_of to_all ps (whole_row x)) s × Holds (period_of parent s) p
    one p k =
        let m = held_by parent ps p (h p k) in
        (m.0, subst (λ (rs : List Row). Contains rs m.0) (sym (all_of ps x)) m.1, m.2)

    each : ReferenceHolds whole_table parent to_all ps (whole_row x ∷ [])
    each zero d l = inr one
    each (suc k) d l = absurd (omega arith)

-- ---- more parents

any_more : {A : Type 0} (t : A → Bool) (xs ys : List A) → list_any t xs ≡ true → list_any t (xs ++ ys) ≡ true
any_more t [] ys e = absurd (cc)
any_more t (x ∷ xs) ys e = by_bool (t x)
    (λ h. ap (λ b. b || list_any t (xs ++ ys)) h)
    (λ n. ap (λ b. b || list_any t (xs ++ ys)) n ∙ any_more t xs ys (sym (ap (λ b. b || list_any t xs) n) ∙ e))

-- a child row that is met is still met with more parents
pub met_by_more : ReferenceTestIsRight → (child parent : TableDef) (b : Bool) (ps qs : List Row) (r : Row)
    → is_met_by child parent b ps r ≡ true → is_met_by child parent b (ps ++ qs) r ≡ true
met_by_more law child parent true ps qs r e = covered_if law parent (ps ++ qs) (period_of child r)
    (λ p h. any_more (λ s. holds (period_of parent s) p) ps qs (covered_says law parent ps (period_of child r) e p h))
met_by_more law child parent false ps qs r e = any_more (λ s. true) ps qs e
