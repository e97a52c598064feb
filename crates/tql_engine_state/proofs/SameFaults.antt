-- Keys and references of a copy do not depend on the order in which its rows are kept.
use Rattle.std.proofs.Common.{◌≡◌, refl, sym, ap, ◌∙◌, ℕ, zero, suc, Bool, true, false, cond, List, [], ◌∷◌, map}
use Rattle.std.proofs.Common.{arith, Option, Some, None, ◌++◌}
use Rattle.std.specs.Prelude.{◌&&◌, ◌||◌, not, ltb, ℤ, slice_set}
use Rattle.std.specs.List.{list_all, list_any}
use Rattle.std.specs.Int.{int_max, int_min}
use Rattle.std.proofs.lemmas.Int.{ints, clamps}
use Rattle.tql_spec.specs.Bag.{SameBag}
use Rattle.tql_spec.specs.Datum.{Row}
use Rattle.tql_spec.specs.Period.{Period, holds, share_a_point, rises}
use Rattle.tql_spec.specs.Definition.{TableDef, Key, Reference, Stamped, period_of, shown, table_at, place_of, no_table}
use Rattle.tql_spec.specs.History.{Copy, rows_in}
use Rattle.tql_spec.specs.Constraint.{match_on, clash, key_holds, keys_hold, has_null, held_at}
use Rattle.tql_spec.specs.Constraint.{covered, is_met_by, is_met, reference_holds, reference_to, references_hold}
use Rattle.tql_spec.specs.Constraint.{shown_rows, each_table}
use Rattle.tql_spec.specs.Machine.{constraint_faults}
use Rattle.tql_spec.specs.Refusal.{DuplicateKey, ReferenceNotMet, fault_if}
use Rattle.tql_spec.proofs.Bags.{same-map, same-filter, same-sym, same-refl}
use Rattle.tql_spec.proofs.Members.{any-total}
use Rattle.tql_points.proofs.Pairs.{pairs_by_bag}
use Rattle.tql_points.proofs.PointKeys.{match_turned}

-- ---- tests of bags

any_bag : {A : Type 0} (p : A → Bool) {xs ys : List A} → SameBag xs ys → list_any p xs ≡ list_any p ys
any_bag p {xs} {ys} h = any-total p xs ∙ ap (ltb 0) (h.totals (λ x. cond (p x) 1 0)) ∙ sym (any-total p ys)

none_fails : {A : Type 0} (p : A → Bool) (xs : List A) → list_all p xs ≡ not (list_any (λ x. not (p x)) xs)
none_fails p [] = refl
none_fails p (x ∷ xs) = ap (λ b. p x && b) (none_fails p xs) ∙ turned (p x) (list_any (λ y. not (p y)) xs)
  where
    turned : (a b : Bool) → a && not b ≡ not (not a || b)
    turned true b = refl
    turned false b = refl

all_bag : {A : Type 0} (p : A → Bool) {xs ys : List A} → SameBag xs ys → list_all p xs ≡ list_all p ys
all_bag p {xs} {ys} h = none_fails p xs ∙ ap not (any_bag (λ x. not (p x)) h) ∙ sym (none_fails p ys)

both_ways : (a b : Bool) → (a ≡ true → b ≡ true) → (b ≡ true → a ≡ true) → a ≡ b
both_ways true b f g = sym (f refl)
both_ways false true f g = g refl
both_ways false false f g = refl

-- ---- keys

greater_turned : (a b : ℤ) → int_max a b ≡ int_max b a
greater_turned a b = omega (arith, ints, clamps)

lesser_turned : (a b : ℤ) → int_min a b ≡ int_min b a
lesser_turned a b = omega (arith, ints, clamps)

share_turned : (x y : Period) → share_a_point x y ≡ share_a_point y x
share_turned x y = λ i. rises (record { start = greater_turned x.start y.start i; end = lesser_turned x.end y.end i })

clash_turned : (d : TableDef) (k : Key) (r s : Row) → clash d k r s ≡ clash d k s r
clash_turned d k r s = λ i. match_turned k.columns k.columns r s i
    && (not k.by_period || share_turned (period_of d r) (period_of d s) i)

key_bag : (d : TableDef) (k : Key) {xs ys : List Row} → SameBag xs ys → key_holds d xs k ≡ key_holds d ys k
key_bag d k {xs} {ys} h =
    both_ways (key_holds d xs k) (key_holds d ys k)
    (pairs_by_bag (clash d k) (clash_turned d k) xs ys h)
    (pairs_by_bag (clash d k) (clash_turned d k) ys xs (same-sym h))

-- ---- references

covered_bag : (d : TableDef) (x : Period) {xs ys : List Row} → SameBag xs ys → covered d xs x ≡ covered d ys x
covered_bag d x {xs} {ys} h =
    let end : Row → ℤ = λ s. (period_of d s).end in
    let test : List Row → ℤ → Bool = λ zs p. not (holds x p) || held_at d zs p in
    let one : (p : ℤ) → test xs p ≡ test ys p = λ p.
    ap (λ b. not (holds x p) || b) (any_bag (λ s. holds (period_of d s) p) h) in
    (λ i. one x.start i && list_all (λ p. one p i) (map end xs))
    ∙ ap (λ b. test ys x.start && b) (all_bag (test ys) (same-map end h))

met_by_bag : (child parent : TableDef) (b : Bool) (r : Row) {xs ys : List Row} → SameBag xs ys
    → is_met_by child parent b xs r ≡ is_met_by child parent b ys r
met_by_bag child parent true r h = covered_bag parent (period_of child r) h
met_by_bag child parent false r h = any_bag (λ s. true) h

met_bag : (child parent : TableDef) (f : Reference) (r : Row) {xs ys : List Row} → SameBag xs ys
    → is_met child parent f xs r ≡ is_met child parent f ys r
met_bag child parent f r h = ap (λ b. has_null f.columns r || b)
    (met_by_bag child parent f.by_period r (same-filter (λ s. match_on f.columns r f.parent_columns s) h))

reference_bag : (child parent : TableDef) (f : Reference) {xs ys us vs : List Row} → SameBag xs ys → SameBag us vs
    → reference_holds child parent f xs us ≡ reference_holds child parent f ys vs
reference_bag child parent f {xs} {ys} {us} {vs} h k =
    (λ i. list_all (λ r. met_bag child parent f r h i) us) ∙ all_bag (is_met child parent f ys) k

-- ---- copies

-- the rows of each table are the same bag
abbrev pub SameCopy : Copy → Copy → Type 0
SameCopy [] [] = Unit {0}
SameCopy (x ∷ xs) (y ∷ ys) = SameBag x y × SameCopy xs ys
SameCopy [] (y ∷ ys) = ⊥
SameCopy (x ∷ xs) [] = ⊥

pub rows_bag : (xs ys : Copy) → SameCopy xs ys → (t : ℕ) → SameBag (rows_in xs t) (rows_in ys t)
rows_bag [] [] h t = same-refl []
rows_bag (x ∷ xs) (y ∷ ys) h zero = h.0
rows_bag (x ∷ xs) (y ∷ ys) h (suc t) = rows_bag xs ys h.1 t
rows_bag [] (y ∷ ys) h t = absurd h
rows_bag (x ∷ xs) [] h t = absurd h

-- with other rows in one table
pub set_bag : (xs ys : Copy) (t : ℕ) (us vs : List Stamped) → SameCopy xs ys → SameBag us vs
    → SameCopy (slice_set xs t us) (slice_set ys t vs)
set_bag [] [] t us vs h k = tt
set_bag (x ∷ xs) (y ∷ ys) zero us vs h k = (k, h.1)
set_bag (x ∷ xs) (y ∷ ys) (suc t) us vs h k = (h.0, set_bag xs ys t us vs h.1 k)
set_bag [] (y ∷ ys) t us vs h k = absurd h
set_bag (x ∷ xs) [] t us vs h k = absurd h

each_bag : (p q : TableDef → List Row → Bool)
    → ((d : TableDef) (us vs : List Stamped) → SameBag us vs → p d (shown_rows d us) ≡ q d (shown_rows d vs))
    → (ds : List TableDef) (xs ys : Copy) → SameCopy xs ys → each_table p ds xs ≡ each_table q ds ys
each_bag p q same [] xs ys h = refl
each_bag p q same (d ∷ ds) [] [] h = refl
each_bag p q same (d ∷ ds) (x ∷ xs) (y ∷ ys) h = λ i. same d x y h.0 i && each_bag p q same ds xs ys h.1 i
each_bag p q same (d ∷ ds) [] (y ∷ ys) h = absurd h
each_bag p q same (d ∷ ds) (x ∷ xs) [] h = absurd h

keys_bag : (ds : List TableDef) (xs ys : Copy) → SameCopy xs ys → keys_hold ds xs ≡ keys_hold ds ys
keys_bag ds xs ys h =
    each_bag (λ d rows. list_all (key_holds d rows) d.keys) (λ d rows. list_all (key_holds d rows) d.keys)
    (λ d us vs k. (λ i. list_all (λ x. key_bag d x (same-map (shown d) k) i) d.keys)) ds xs ys h

to_bag : (ds : List TableDef) (xs ys : Copy) (d : TableDef) (f : Reference) (o : Option ℕ) {us vs : List Row}
    → SameCopy xs ys → SameBag us vs → reference_to ds xs d us f o ≡ reference_to ds ys d vs f o
to_bag ds xs ys d f None h k = reference_bag d no_table f (same-refl []) k
to_bag ds xs ys d f (Some t) h k =
    reference_bag d (table_at ds t) f (same-map (shown (table_at ds t)) (rows_bag xs ys h t)) k

references_bag : (ds : List TableDef) (xs ys : Copy) → SameCopy xs ys → references_hold ds xs ≡ references_hold ds ys
references_bag ds xs ys h =
    each_bag (λ d rows. list_all (λ f. reference_to ds xs d rows f (place_of f.parent ds)) d.references)
    (λ d rows. list_all (λ f. reference_to ds ys d rows f (place_of f.parent ds)) d.references)
    (λ d us vs k. (λ i. list_all
    (λ f. to_bag ds xs ys d f (place_of f.parent ds) h (same-map (shown d) k) i) d.references)) ds xs ys h

-- so their faults are the same
pub faults_bag : (ds : List TableDef) (xs ys : Copy) → SameCopy xs ys
    → constraint_faults ds xs ≡ constraint_faults ds ys
faults_bag ds xs ys h =
    λ i. fault_if (not (keys_bag ds xs ys h i)) DuplicateKey ++ fault_if (not (references_bag ds xs ys h i))
    ReferenceNotMet
