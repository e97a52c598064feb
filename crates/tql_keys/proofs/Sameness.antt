-- Keys and references depend only on the bag of a table's rows.
use Rattle.std.proofs.Common.{◌≡◌, refl, ap, ◌∙◌, ℕ, zero, suc, Bool, true, List, [], ◌∷◌, ◌++◌, map, false}
use Rattle.std.specs.Prelude.{◌&&◌, ◌||◌, not, Option, Some, None, slice_set}
use Rattle.std.specs.List.{list_all}
use Rattle.tql_spec.specs.Bag.{SameBag}
use Rattle.tql_spec.specs.Constraint.{key_holds, each_table, shown_rows, keys_hold, references_hold, reference_to}
use Rattle.tql_spec.specs.Constraint.{reference_holds, has_null, is_met, is_met_by, covered, held_at, match_on}
use Rattle.tql_spec.specs.Datum.{Row}
use Rattle.tql_spec.specs.Definition.{TableDef, Reference, Stamped, no_table, period_of, shown, table_at, place_of}
use Rattle.tql_spec.specs.History.{Copy, rows_in}
use Rattle.tql_spec.specs.Machine.{constraint_faults}
use Rattle.tql_spec.specs.Period.{Period, holds}
use Rattle.tql_spec.specs.Refusal.{DuplicateKey, ReferenceNotMet, fault_if}
use Rattle.tql_spec.proofs.Bags.{same-map, same-filter, same-refl}
use Rattle.tql_key_clashes.specs.Free.{keys_hold_of}
use Rattle.tql_key_rows.proofs.Bools.{all_same}
use Rattle.tql_key_rows.proofs.Wheres.{all_bag, any_bag}
use Rattle.tql_key_clashes.proofs.KeyBags.{key_by_bag}

-- ---- keys

keys_by_bag : (d : TableDef) {rows others : List Stamped} → SameBag rows others
    → keys_hold_of d (shown_rows d rows) ≡ keys_hold_of d (shown_rows d others)
keys_by_bag d {rows} {others} h =
    all_same (key_holds d (shown_rows d rows)) (key_holds d (shown_rows d others)) d.keys
    (key_by_bag d (same-map (shown d) h))

-- ---- references

covered_by_bag : (d : TableDef) {ps qs : List Row} → SameBag ps qs → (x : Period) → covered d ps x ≡ covered d qs x
covered_by_bag d {ps} {qs} h x =
    all_same (λ p. not (holds x p) || held_at d ps p) (λ p. not (holds x p) || held_at d qs p)
    (x.start ∷ map (λ s. (period_of d s).end) ps)
    (λ p. ap (λ b. not (holds x p) || b) (any_bag (λ s. holds (period_of d s) p) h))
    ∙ ap (λ b. (not (holds x x.start) || held_at d qs x.start) && b)
    (all_bag (λ p. not (holds x p) || held_at d qs p) (same-map (λ s. (period_of d s).end) h))

met_by_bag : (c d : TableDef) (b : Bool) {ps qs : List Row} → SameBag ps qs → (r : Row)
    → is_met_by c d b ps r ≡ is_met_by c d b qs r
met_by_bag c d true h r = covered_by_bag d h (period_of c r)
met_by_bag c d false h r = any_bag (λ s. true) h

reference_by_bag : (c d : TableDef) (f : Reference) {ps qs rows others : List Row} → SameBag ps qs → SameBag rows others
    → reference_holds c d f ps rows ≡ reference_holds c d f qs others
reference_by_bag c d f {ps} {qs} {rows} {others} h k =
    all_same (is_met c d f ps) (is_met c d f qs) rows
    (λ r. ap (λ b. has_null f.columns r || b) (met_by_bag c d f.by_period
    (same-filter (λ s. match_on f.columns r f.parent_columns s) h) r))
    ∙ all_bag (is_met c d f qs) k

-- ---- copies

-- copies with the same bags
abbrev AreAlike : Copy → Copy → Type 0
AreAlike copy other = (u : ℕ) → SameBag (rows_in copy u) (rows_in other u)

alike : (copy : Copy) (t : ℕ) {rows others : List Stamped} → SameBag rows others
    → AreAlike (slice_set copy t rows) (slice_set copy t others)
alike [] t h u = same-refl (rows_in [] u)
alike (rs ∷ copy) zero h zero = h
alike (rs ∷ copy) zero h (suc u) = same-refl (rows_in copy u)
alike (rs ∷ copy) (suc t) h zero = same-refl rs
alike (rs ∷ copy) (suc t) h (suc u) = alike copy t h u

-- two tests that agree on the same bags
abbrev Agree : (TableDef → List Row → Bool) → (TableDef → List Row → Bool) → Type 0
Agree test other = (d : TableDef) (rows others : List Stamped) → SameBag rows others
    → test d (shown_rows d rows) ≡ other d (shown_rows d others)

each_same : (test other : TableDef → List Row → Bool) → Agree test other → (defs : List TableDef) (copy : Copy)
    → each_table test defs copy ≡ each_table other defs copy
each_same test other h [] copy = refl
each_same test other h (d ∷ defs) [] = refl
each_same test other h (d ∷ defs) (rs ∷ copy) =
    ap (λ b. b && each_table test defs copy) (h d rs rs (same-refl rs))
    ∙ ap (λ b. other d (shown_rows d rs) && b) (each_same test other h defs copy)

each_alike : (test other : TableDef → List Row → Bool) → Agree test other → (defs : List TableDef) (copy : Copy) (t : ℕ)
    {rows others : List Stamped} → SameBag rows others
    → each_table test defs (slice_set copy t rows) ≡ each_table other defs (slice_set copy t others)
each_alike test other h [] copy t k = refl
each_alike test other h (d ∷ defs) [] t k = refl
each_alike test other h (d ∷ defs) (rs ∷ copy) zero {rows} {others} k =
    ap (λ b. b && each_table test defs copy) (h d rows others k)
    ∙ ap (λ b. other d (shown_rows d others) && b) (each_same test other h defs copy)
each_alike test other h (d ∷ defs) (rs ∷ copy) (suc t) {rows} {others} k =
    ap (λ b. b && each_table test defs (slice_set copy t rows)) (h d rs rs (same-refl rs))
    ∙ ap (λ b. other d (shown_rows d rs) && b) (each_alike test other h defs copy t k)

-- the keys of a copy depend only on the bag of a table's rows
pub keys_alike : (defs : List TableDef) (copy : Copy) (t : ℕ) {rows others : List Stamped} → SameBag rows others
    → keys_hold defs (slice_set copy t rows) ≡ keys_hold defs (slice_set copy t others)
keys_alike defs copy t h = each_alike keys_hold_of keys_hold_of (λ d rows others k. keys_by_bag d k) defs copy t h

to_alike : (defs : List TableDef) (copy other : Copy) → AreAlike copy other → (d : TableDef)
    (rows others : List Stamped) → SameBag rows others → (f : Reference) (o : Option ℕ)
    → reference_to defs copy d (shown_rows d rows) f o ≡ reference_to defs other d (shown_rows d others) f o
to_alike defs copy other h d rows others k f None =
    reference_by_bag d no_table f {ps = []} {qs = []} (same-refl []) (same-map (shown d) k)
to_alike defs copy other h d rows others k f (Some t) =
    reference_by_bag d (table_at defs t) f (same-map (shown (table_at defs t)) (h t)) (same-map (shown d) k)

-- so do its references
pub references_alike : (defs : List TableDef) (copy : Copy) (t : ℕ) {rows others : List Stamped} → SameBag rows others
    → references_hold defs (slice_set copy t rows) ≡ references_hold defs (slice_set copy t others)
references_alike defs copy t {rows} {others} h =
    each_alike (tested (slice_set copy t rows)) (tested (slice_set copy t others))
    (λ d us vs k. all_same _ _ d.references
    (λ f. to_alike defs (slice_set copy t rows) (slice_set copy t others) (alike copy t h) d us vs k f
    (place_of f.parent defs))) defs copy t h
  where
    tested : Copy → TableDef → List Row → Bool
    tested c d us = list_all (λ (f : Reference). reference_to defs c d us f (place_of f.parent defs)) d.references

-- and its faults
pub faults_alike : (defs : List TableDef) (copy : Copy) (t : ℕ) {rows others : List Stamped} → SameBag rows others
    → constraint_faults defs (slice_set copy t rows) ≡ constraint_faults defs (slice_set copy t others)
faults_alike defs copy t h i =
    fault_if (not (keys_alike defs copy t h i)) DuplicateKey
    ++ fault_if (not (references_alike defs copy t h i)) ReferenceNotMet
