-- Collected periods, and what they cover.
use Rattle.std.proofs.Common.{◌≡◌, ◌<◌, refl, sym, ap, ◌∙◌, ℕ, zero, suc, Bool, true, false, List, [], ◌∷◌}
use Rattle.std.proofs.Common.{map, filter, length, get_or, arith}
use Rattle.std.specs.Prelude.{◌||◌, ◌↔◌, ℤ, Contains, IsTrue}
use Rattle.std.proofs.lemmas.Int.{ints}
use Rattle.tql_spec.specs.Datum.{Row}
use Rattle.tql_spec.specs.Period.{Period, Holds, Covers, holds, rises}
use Rattle.tql_spec.specs.Definition.{TableDef, Reference}
use Rattle.tql_spec.specs.Constraint.{ReferenceTestIsRight, covered, held_at, parents_of}
use Rattle.tql_spec.proofs.Members.{by_bool}
use Rattle.tql_period.specs.Points.{points_of}
use Rattle.tql_period.specs.declared.period.Period as code
use Rattle.tql_key_rows.specs.Touched.{tuple, with_tuple}
use Rattle.tql_keys.specs.Parents.{any_holds}
use Rattle.tql_key_rows.proofs.Bools.{same_bool}
use Rattle.tql_key_rows.proofs.Tuples.{match_sym, match_tuple}
use Rattle.tql_keys.proofs.Covering.{covered_says, covered_if}

-- the parents of a child row are the rows with its tuple
pub parents_is : (f : Reference) (rows : List Row) (r : Row)
    → parents_of f rows r ≡ with_tuple f.parent_columns (tuple f.columns r) rows
parents_is f rows r = ap (λ (p : Row → Bool). filter p rows)
    (λ i s. (match_sym f.columns r f.parent_columns s ∙ match_tuple f.parent_columns s f.columns r) i)

-- ---- coverage

holds_if : (x : Period) (p : ℤ) → Holds x p → holds x p ≡ true
holds_if x p h = grind (arith, ints, h.0, h.1)

if_holds : (x : Period) (p : ℤ) → holds x p ≡ true → Holds x p
if_holds x p e = (grind (arith, ints), grind (arith, ints))

in_front : (x : Period) (xs : List Period) (p : ℤ) → (part : Period) × Contains xs part × Holds part p
    → (part : Period) × Contains (x ∷ xs) part × Holds part p
in_front x xs p h = (h.0, (suc h.1.0, omega (arith, h.1.1), h.1.2), h.2)

-- some period holds the point
some_part : (periods : List code.Period) (p : ℤ) → any_holds periods p ≡ true
    → (part : Period) × Contains (map points_of periods) part × Holds part p
some_part [] p e = absurd (cc)
some_part (x ∷ periods) p e = by_bool (holds (points_of x) p)
    (λ h. (points_of x, (zero, omega arith, refl), if_holds (points_of x) p h))
    (λ n. in_front (points_of x) (map points_of periods) p
    (some_part periods p (sym (ap (λ b. b || any_holds periods p) n) ∙ e)))

part_some : (periods : List code.Period) (p : ℤ) (part : Period) (k : ℕ) → k < length (map points_of periods)
    → get_or (map points_of periods) k part ≡ part → Holds part p → any_holds periods p ≡ true
part_some [] p part k l e h = absurd (omega (arith, l))
part_some (x ∷ periods) p part zero l e h =
    ap (λ b. b || any_holds periods p) (ap (λ y. holds y p) e ∙ holds_if part p h)
part_some (x ∷ periods) p part (suc k) l e h =
    ap (λ b. holds (points_of x) p || b) (part_some periods p part k (omega (arith, l)) e h)
    ∙ yes (holds (points_of x) p)
  where
    yes : (b : Bool) → b || true ≡ true
    yes true = refl
    yes false = refl

-- the sweep over periods gives the same answer as the test in the definitions
pub covers_is : ReferenceTestIsRight → (parent : TableDef) (ps : List Row) (periods : List code.Period) (whole : Period)
    (b : Bool) → IsTrue b ↔ Covers (map points_of periods) whole
    → ((p : ℤ) → any_holds periods p ≡ held_at parent ps p) → b ≡ covered parent ps whole
covers_is law parent ps periods whole b told same = same_bool b (covered parent ps whole)
    (λ e. covered_if law parent ps whole (λ p h. held p h (told.0 e p h)))
    (λ e. told.1 (λ p h. some_part periods p (same p ∙ covered_says law parent ps whole e p h)))
  where
    held : (p : ℤ) → Holds whole p → (part : Period) × Contains (map points_of periods) part × Holds part p
        → held_at parent ps p ≡ true
    held p h m = sym (same p) ∙ part_some periods p m.0 m.1.0 m.1.1 m.1.2 m.2

-- an empty period is covered by any rows, even by none
pub covers_nothing : ReferenceTestIsRight → (parent : TableDef) (ps : List Row) (whole : Period)
    → rises whole ≡ false → covered parent ps whole ≡ true
covers_nothing law parent ps whole e =
    covered_if law parent ps whole (λ p h. absurd (falls p h))
  where
    falls : (p : ℤ) → Holds whole p → ⊥
    falls p h = grind (arith, ints, h.0, h.1, e)
