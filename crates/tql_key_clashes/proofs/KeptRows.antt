-- Added rows that replace others, each at its position, and the rows that ids name.
use Rattle.std.proofs.Common.{◌≡◌, ◌<◌, refl, sym, ap, ◌∙◌, ℕ, zero, suc, Bool, true, false, cond, List, [], ◌∷◌, map}
use Rattle.std.proofs.Common.{filter, inl, inr, arith, nat_eq, nat_lt}
use Rattle.std.specs.Prelude.{◌&&◌, Option, Some, None, option_map, slice_get, slice_index_or, if◌then◌else◌}
use Rattle.std.specs.List.{list_all}
use Rattle.std.proofs.lemmas.Bool.Decides.{nat_tests}
use Rattle.tql_spec.specs.Bag.{In}
use Rattle.tql_spec.specs.Datum.{Row}
use Rattle.tql_spec.specs.Definition.{TableDef, Stamped, Version, shown}
use Rattle.tql_spec.specs.Words.{all_pairs}
use Rattle.tql_spec.proofs.AtPoints.{all_in}
use Rattle.tql_spec.proofs.Members.{both, by_bool}
use Rattle.tql_store.specs.StoreModel.{StoreModel}
use Rattle.tql_versions.specs.Changes.{alive, is_current}
use Rattle.tql_versions.specs.Readings.{where_open}
use Rattle.tql_key_rows.specs.Asked.{current_rows, row_named}
use Rattle.tql_key_rows.specs.Keeping.{are_kept, is_kept}
use Rattle.tql_key_clashes.proofs.Alikes.{AreAlike, alike_says}
use Rattle.tql_key_clashes.proofs.NamedRows.{store_names}

-- ---- rows that are kept

-- the id names a row alike this one
pub record Stands (d : TableDef) (columns : List ℕ) (by_period : Bool) (named : ℕ → Option Stamped) (id : ℕ) (x : Row)
    : Type 0 where
  pub row : Stamped
  pub is : named id ≡ Some row
  pub alike : AreAlike d columns by_period (shown d row) x

-- what `is_kept` implies for one row
pub stands : (d : TableDef) (columns : List ℕ) (by_period : Bool) (named : ℕ → Option Stamped) (id : ℕ) (x : Row)
    (o : Option Stamped) → named id ≡ o → is_kept d columns by_period o x ≡ true
    → Stands d columns by_period named id x
stands d columns by_period named id x None e k = absurd (cc)
stands d columns by_period named id x (Some r) e k = record {
  row = r;
  is = e;
  alike = alike_says d columns by_period (shown d r) x k;
}

-- each added row is alike the row of some id
pub of_row : (d : TableDef) (columns : List ℕ) (by_period : Bool) (named : ℕ → Option Stamped) (ids : List ℕ)
    (rows : List Row) → are_kept d columns by_period named ids rows ≡ true → (x : Row) → In x rows
    → (id : ℕ) × In id ids × Stands d columns by_period named id x
of_row d columns by_period named [] [] e x m = absurd m
of_row d columns by_period named [] (y ∷ rows) e x m = absurd (cc)
of_row d columns by_period named (id ∷ ids) [] e x m = absurd m
of_row d columns by_period named (id ∷ ids) (y ∷ rows) e x (inl q) =
    let b = both (is_kept d columns by_period (named id) y) (are_kept d columns by_period named ids rows) e in (
      id,
      inl refl,
      stands d columns by_period named id x (named id) refl (ap (is_kept d columns by_period (named id)) q ∙ b.0),
    )
of_row d columns by_period named (id ∷ ids) (y ∷ rows) e x (inr m) =
    let b = both (is_kept d columns by_period (named id) y) (are_kept d columns by_period named ids rows) e in
    let r = of_row d columns by_period named ids rows b.1 x m in (r.0, inr r.1, r.2)

-- each id names a row that some added row is alike
pub of_id : (d : TableDef) (columns : List ℕ) (by_period : Bool) (named : ℕ → Option Stamped) (ids : List ℕ)
    (rows : List Row) → are_kept d columns by_period named ids rows ≡ true → (id : ℕ) → In id ids
    → (x : Row) × In x rows × Stands d columns by_period named id x
of_id d columns by_period named [] rows e id m = absurd m
of_id d columns by_period named (i ∷ ids) [] e id m = absurd (cc)
of_id d columns by_period named (i ∷ ids) (y ∷ rows) e id (inl q) =
    let b = both (is_kept d columns by_period (named i) y) (are_kept d columns by_period named ids rows) e in (
      y,
      inl refl,
      stands d columns by_period named id y (named id) refl (ap (λ j. is_kept d columns by_period (named j) y) q ∙ b.0),
    )
of_id d columns by_period named (i ∷ ids) (y ∷ rows) e id (inr m) =
    let b = both (is_kept d columns by_period (named i) y) (are_kept d columns by_period named ids rows) e in
    let r = of_id d columns by_period named ids rows b.1 id m in (r.0, inr r.1, r.2)

-- ---- the rows of two ids

abbrev rows_of : List Version → List Stamped
rows_of vs = map (λ (v : Version). v.row) (filter is_current (filter alive vs))

abbrev named_in : List Version → ℕ → Option Stamped
named_in vs id = option_map (λ (v : Version). v.row) (where_open (slice_get vs id))

abbrev store_of : List Version → StoreModel → StoreModel
store_of vs h = record h { versions = vs ∷ [] }

opened : (b : Bool) (v : Version) (r : Stamped)
    → option_map (λ (x : Version). x.row) (if b then Some v else None) ≡ Some r → (b ≡ true) × (v.row ≡ r)
opened true v r e = let s : Some v.row ≡ Some r = e in let w : v.row ≡ r = cc in (refl, w)
opened false v r e = absurd (cc)

first_row : (v : Version) (vs : List Version) → (alive v ≡ true) × (is_current v ≡ true)
    → rows_of (v ∷ vs) ≡ v.row ∷ rows_of vs
first_row v vs e =
    ap (λ b. map (λ (x : Version). x.row) (filter is_current (cond b (v ∷ filter alive vs) (filter alive vs)))) e.0
    ∙ ap (λ b. map (λ (x : Version). x.row) (cond b (v ∷ filter is_current (filter alive vs))
    (filter is_current (filter alive vs)))) e.1

rest_pairs : (P : Stamped → Stamped → Bool) (v : Version) (vs : List Version) → all_pairs P (rows_of (v ∷ vs)) ≡ true
    → all_pairs P (rows_of vs) ≡ true
rest_pairs P v vs e = outer (alive v) e
  where
    left : List Version
    left = filter alive vs

    kept : List Version
    kept = filter is_current left

    inner : (b : Bool) → all_pairs P (map (λ (x : Version). x.row) (cond b (v ∷ kept) kept)) ≡ true
        → all_pairs P (rows_of vs) ≡ true
    inner true f = (both (list_all (P v.row) (rows_of vs)) (all_pairs P (rows_of vs)) f).1
    inner false f = f

    outer : (b : Bool) → all_pairs P (map (λ (x : Version). x.row) (filter is_current (cond b (v ∷ left) left))) ≡ true
        → all_pairs P (rows_of vs) ≡ true
    outer true f = inner (is_current v) f
    outer false f = f

later : (h : StoreModel) (P : Stamped → Stamped → Bool) (vs : List Version) (a b : ℕ) (r s : Stamped) → a < b
    → named_in vs a ≡ Some r → named_in vs b ≡ Some s → all_pairs P (rows_of vs) ≡ true → P r s ≡ true
later h P [] a b r s l p q e = absurd (cc)
later h P (v ∷ vs) a zero r s l p q e = absurd (omega (arith, l))
later h P (v ∷ vs) zero (suc b) r s l p q e =
    let o = opened (alive v && is_current v) v r p in
    let k = both (list_all (P v.row) (rows_of vs)) (all_pairs P (rows_of vs))
    (sym (ap (all_pairs P) (first_row v vs (both (alive v) (is_current v) o.0))) ∙ e) in
    sym (ap (λ (x : Stamped). P x s) o.1)
    ∙ all_in (P v.row) (rows_of vs) s k.0 ((store_names (store_of vs h) 0 s).1 (b, q))
later h P (v ∷ vs) (suc a) (suc b) r s l p q e =
    later h P vs a b r s (omega (arith, l)) p q (rest_pairs P v vs e)

-- a symmetric test that passes for all pairs of current rows passes for the rows of two different ids
pub of_two : (h : StoreModel) (t : ℕ) (P : Stamped → Stamped → Bool) → ((x y : Stamped) → P x y ≡ P y x)
    → all_pairs P (current_rows h t) ≡ true → (a b : ℕ) (r s : Stamped) → nat_eq a b ≡ false
    → row_named h t a ≡ Some r → row_named h t b ≡ Some s → P r s ≡ true
of_two h t P turned e a b r s n p q = by_bool (nat_lt a b)
    (λ l. later h P vs a b r s (grind (arith, nat_tests, l)) p q e)
    (λ l. turned r s ∙ later h P vs b a s r (grind (arith, nat_tests, l, n)) q p e)
  where
    vs : List Version
    vs = slice_index_or h.versions t []
