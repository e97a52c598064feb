-- The rows that a store finds by stored columns are those of its table with the tuple.
use Rattle.std.proofs.Common.{◌≡◌, ◌≤◌, ◌<◌, refl, sym, ap, subst, ◌∙◌, ℕ, zero, suc, ◌+◌, Bool, true, false, cond}
use Rattle.std.proofs.Common.{List, []}
use Rattle.std.proofs.Common.{◌∷◌, map, filter, length, get_or, arith}
use Rattle.std.specs.Prelude.{◌&&◌, All, Some, None, option_map, count_by, nat_eq, if◌then◌else◌}
use Rattle.std.specs.List.{sum_by}
use Rattle.std.proofs.lemmas.Bool.Decides.{nat_tests}
use Rattle.std.proofs.lemmas.List.Sums.{sum_by-cons}
use Rattle.tql_spec.specs.Bag.{SameBag}
use Rattle.tql_spec.specs.Calendar.{high}
use Rattle.tql_spec.specs.Datum.{Datum, Row, Equals, compare}
use Rattle.tql_spec.specs.Definition as definition
use Rattle.tql_spec.specs.Definition.{TableDef, Stamped, cell, shown}
use Rattle.tql_spec.specs.Truth.{is_true}
use Rattle.tql_spec.proofs.Bags.{same-map, same-filter, same-sym}
use Rattle.tql_spec.proofs.Members.{both}
use Rattle.tql_catalog.specs.Rows.{AreStoredAt, stored_width}
use Rattle.tql_catalog.specs.declared.catalog.Table.{Table}
use Rattle.tql_store.specs.StoreModel.{StoreModel, live}
use Rattle.tql_store.specs.Views.{IsFound}
use Rattle.tql_store_index.specs.Tuple.{is_at}
use Rattle.tql_versions.specs.Changes.{alive, is_current}
use Rattle.tql_versions.specs.Readings.{version_shown, where_open}
use Rattle.tql_versions.specs.declared.version.Version.{Version}
use Rattle.tql_value.specs.declared.when.When.TheVariants.{Now}
use Rattle.tql_key_rows.specs.Asked.{AreRowsOf, row_found, row_named, rows_with}
use Rattle.tql_key_rows.specs.Touched.{has_tuple}

-- ---- tuples of stored cells

-- whether each value equals the corresponding other one
abbrev all_equal : List Datum → List Datum → Bool
all_equal [] [] = true
all_equal (a ∷ as') (b ∷ bs) = is_true (compare Equals a b) && all_equal as' bs
all_equal _ _ = false

at_as : (ks : List ℕ) (vs : List Datum) (row : Row) → is_at ks vs row ≡ all_equal (map (cell row) ks) vs
at_as [] [] row = refl
at_as [] (v ∷ vs) row = refl
at_as (k ∷ ks) [] row = refl
at_as (k ∷ ks) (v ∷ vs) row = ap (λ b. is_true (compare Equals (cell row k) v) && b) (at_as ks vs row)

tuple_as : (cs : List ℕ) (vs : List Datum) (row : Row) → has_tuple cs vs row ≡ all_equal (map (cell row) cs) vs
tuple_as [] [] row = refl
tuple_as [] (v ∷ vs) row = refl
tuple_as (c ∷ cs) [] row = refl
tuple_as (c ∷ cs) (v ∷ vs) row = ap (λ b. is_true (compare Equals (cell row c) v) && b) (tuple_as cs vs row)

-- a row with its table's width has a tuple exactly if its stored cells have the values
pub stored_tuple : (d : TableDef) (cs ks : List ℕ) (vs : List Datum) (r : Stamped) → AreStoredAt d cs ks
    → length r.cells ≡ stored_width d → is_at ks vs r.cells ≡ has_tuple cs vs (shown d r)
stored_tuple d cs ks vs r stored wide =
    at_as ks vs r.cells ∙ ap (λ xs. all_equal xs vs) (sym (stored r.cells r.start high wide))
    ∙ sym (tuple_as cs vs (shown d r))

-- ---- filtered lists

-- filtering a mapped list
kept_images : {A B : Type 0} (f : A → B) (p : A → Bool) (q : B → Bool) (xs : List A)
    → filter q (map f (filter p xs)) ≡ map f (filter (λ x. p x && q (f x)) xs)
kept_images f p q [] = refl
kept_images f p q (x ∷ xs) = at (p x) (kept_images f p q xs)
  where
    at : (a : Bool) → filter q (map f (filter p xs)) ≡ map f (filter (λ y. p y && q (f y)) xs)
        → filter q (map f (cond a (x ∷ filter p xs) (filter p xs)))
        ≡ map f (cond (a && q (f x)) (x ∷ filter (λ y. p y && q (f y)) xs) (filter (λ y. p y && q (f y)) xs))
    at false h = h
    at true h = one (q (f x)) h
      where
        one : (b : Bool) → filter q (map f (filter p xs)) ≡ map f (filter (λ y. p y && q (f y)) xs)
            → cond b (f x ∷ filter q (map f (filter p xs))) (filter q (map f (filter p xs)))
            ≡ map f (cond b (x ∷ filter (λ y. p y && q (f y)) xs) (filter (λ y. p y && q (f y)) xs))
        one false h = h
        one true h = ap (λ ys. f x ∷ ys) h

-- filtering by tests that agree on the elements
kept_alike : {A : Type 0} (p q : A → Bool) (xs : List A) → All (λ x. p x ≡ q x) xs → filter p xs ≡ filter q xs
kept_alike p q [] h = refl
kept_alike p q (x ∷ xs) h =
    ap (λ b. cond b (x ∷ filter p xs) (filter p xs)) (h 0 x (omega arith))
    ∙ ap (λ ys. cond (q x) (x ∷ ys) ys) (kept_alike p q xs (λ k d l. h (suc k) d (omega arith)))

-- ---- the rows that are found

images : (found : List Version) → map row_found found
    ≡ map (λ (v : definition.Version). v.row) (map version_shown found)
images [] = refl
images (v ∷ found) = ap (λ rs. row_found v ∷ rs) (images found)

-- the found rows are those whose stored cells pass
pub rows_passing : (h : StoreModel) (table : Table) (p q : Row → Bool) (found : List Version)
    → ((r : Stamped) → length r.cells ≡ stored_width table.definition → p r.cells ≡ q (shown table.definition r))
    → IsFound h table.id Now p found → (rows : List Stamped) → AreRowsOf h table rows
    → SameBag (map row_found found) (filter (λ r. q (shown table.definition r)) rows)
rows_passing h table p q found alike is rows of = record {
  totals = λ w.
      ap (sum_by w) (images found)
      ∙ (same-map (λ (v : definition.Version). v.row) is.versions).totals w
      ∙ ap (sum_by w) (sym (kept_images (λ (v : definition.Version). v.row) is_current (λ r. p r.cells)
      (live h table.id)))
      ∙ (same-filter (λ r. p r.cells) (same-sym of.same)).totals w
      ∙ ap (sum_by w) (kept_alike (λ r. p r.cells) (λ r. q (shown table.definition r)) rows
      (λ k d l. alike (get_or rows k d) (of.wide k d l)));
}

-- the found rows are those with the tuple
pub rows_are_found : (h : StoreModel) (table : Table) (cs ks : List ℕ) (vs : List Datum) (found : List Version)
    → AreStoredAt table.definition cs ks → IsFound h table.id Now (is_at ks vs) found → (rows : List Stamped)
    → AreRowsOf h table rows → SameBag (map row_found found) (rows_with table.definition cs vs rows)
rows_are_found h table cs ks vs found stored =
    rows_passing h table (is_at ks vs) (has_tuple cs vs) found
    (λ r wide. stored_tuple table.definition cs ks vs r stored wide)

-- ---- the ids of the found rows

counting : (i : ℕ) (v : Version) (vs : List Version)
    → count_by (λ (x : Version). nat_eq x.id i) (v ∷ vs) ≡ cond {A = ℕ} (nat_eq v.id i) 1 0 + count_by
    (λ (x : Version). nat_eq x.id i) vs
counting i v vs = sum_by-cons (λ (x : Version). cond (nat_eq x.id i) 1 0) v vs

itself : (i : ℕ) → nat_eq i i ≡ true
itself i = grind (arith, nat_tests)

counted : (vs : List Version) (k : ℕ) (d : Version) → k < length vs
    → 1 ≤ count_by (λ (x : Version). nat_eq x.id (get_or vs k d).id) vs
counted [] k d l = absurd (omega arith)
counted (v ∷ vs) zero d l =
    let one : cond {A = ℕ} (nat_eq v.id v.id) 1 0 ≡ 1 = ap (λ (b : Bool). cond {A = ℕ} b 1 0) (itself v.id) in
    omega (arith, one, counting v.id v vs)
counted (v ∷ vs) (suc k) d l =
    omega (arith, counting (get_or vs k d).id v vs, counted vs k d (omega arith))

-- the id of a found row names that row, which is current
pub names_are_found : (h : StoreModel) (t : ℕ) (test : Row → Bool) (found : List Version)
    → IsFound h t Now test found → All (λ (f : Version). row_named h t f.id ≡ Some (row_found f)) found
names_are_found h t test found is k d l =
    ap (λ o. option_map (λ (v : definition.Version). v.row) (where_open o)) (is.ids k d l) ∙ opened (both _ _ passes)
  where
    v : definition.Version
    v = version_shown (get_or found k d)

    told : (b : Bool) → 1 ≤ (if b then 1 else 0) → b ≡ true
    told true h = refl
    told false h = absurd (omega arith)

    passes : alive v && (is_current v && test v.row.cells) ≡ true
    passes = told (alive v && (is_current v && test v.row.cells))
        (subst (λ (n : ℕ). 1 ≤ n) (is.once (get_or found k d).id v (is.ids k d l)) (counted found k d l))

    opened : (alive v ≡ true) × (is_current v && test v.row.cells ≡ true)
        → option_map (λ (x : definition.Version). x.row) (if alive v && is_current v then Some v else None)
        ≡ Some v.row
    opened e =
        ap (λ b. option_map (λ (x : definition.Version). x.row) (if b && is_current v then Some v else None)) e.0
        ∙ ap (λ b. option_map (λ (x : definition.Version). x.row) (if b then Some v else None))
        (both (is_current v) (test v.row.cells) e.1).0
