-- Versions that were found for one value and for others are those with one of the values.
use Rattle.std.proofs.Common.{◌≡◌, ◌∙◌, refl, sym, ap, subst, ℕ, zero, suc, ◌+◌, ◌<◌, Bool, true, false, cond, List}
use Rattle.std.proofs.Common.{[], ◌∷◌, ◌++◌, map, filter, take, get_or, length, arith}
use Rattle.std.specs.Prelude.{◌&&◌, ◌||◌, Option, Some, All, count_by, nat_eq}
use Rattle.std.specs.List.{list_any}
use Rattle.std.proofs.lemmas.List.{get_or-map, length-map, map-append, map_more, take-map}
use Rattle.std.proofs.lemmas.List.Elements.{All-append, All-from_recursion}
use Rattle.std.proofs.lemmas.List.Folds.{list_any-append}
use Rattle.tql_spec.specs.Bag.{SameBag}
use Rattle.tql_spec.specs.Datum.{Datum, Null, Row}
use Rattle.tql_spec.specs.Definition.{Version}
use Rattle.tql_spec.specs.History.{found as versions_found}
use Rattle.tql_spec.specs.Horizon.{is_before}
use Rattle.tql_spec.proofs.Bags.{same-append, same-refl, same-sym, same-trans}
use Rattle.tql_spec.proofs.Members.{by_bool}
use Rattle.tql_value.specs.When.{when_of}
use Rattle.tql_value.specs.declared.when.When.{When}
use Rattle.tql_index.proofs.Counts.{count-append}
use Rattle.tql_versions.specs.Changes.{alive}
use Rattle.tql_versions.specs.Readings.{asked, version_shown as version_of}
use Rattle.tql_versions.specs.declared.version.Version as code
use Rattle.tql_store.specs.Represents.{AnswersBy, Copies, Represents, Working, seen_by}
use Rattle.tql_store.specs.StoreModel.{StoreModel, live, named}
use Rattle.tql_store.specs.Views.{IsFound, Names, NamesOnce}
use Rattle.tql_store_index.specs.Tuple.{is_at}
use Rattle.tql_plan_access.specs.Alternatives.{has_any}
use Rattle.tql_plan_access.specs.Choices.{are_distinct}
use Rattle.tql_plan_access.proofs.Parted.{either_bag, none_later, others_distinct}

-- ---- two tests

both_parts : (a b c : Bool) → ((a && b) || (a && c)) ≡ (a && (b || c))
both_parts true b c = refl
both_parts false b c = refl

only_one : (a b c : Bool) → (b ≡ true → c ≡ false) → (a && b) ≡ true → (a && c) ≡ false
only_one true b c h m = h m
only_one false b c h m = absurd (cc)

-- how often a version is among both
counted : (l a b c : Bool) → (b ≡ true → c ≡ false)
    → cond (l && (a && b)) 1 0 + cond (l && (a && c)) 1 0 ≡ cond (l && (a && (b || c))) 1 0
counted false a b c h = refl
counted true false b c h = refl
counted true true false c h = omega arith
counted true true true c h = ap (λ d. 1 + cond d 1 0) (h refl)

module _ (h : StoreModel) (t : ℕ) (w : When) where
  -- the versions found by two tests that no row passes both
  pub found_both : (p q : Row → Bool) → ((row : Row) → p row ≡ true → q row ≡ false) → (xs ys : List code.Version)
      → IsFound h t w p xs → IsFound h t w q ys → IsFound h t w (λ row. p row || q row) (xs ++ ys)
  found_both p q apart xs ys a b = record {
    versions =
        let first = λ (v : Version). asked w v && p v.row.cells in
        let second = λ (v : Version). asked w v && q v.row.cells in
        let parted : SameBag (filter (λ (v : Version). asked w v && (p v.row.cells || q v.row.cells)) (live h t))
        (filter first (live h t) ++ filter second (live h t)) =
        subst (λ (f : Version → Bool). SameBag (filter f (live h t))
        (filter first (live h t) ++ filter second (live h t)))
        (λ i v. both_parts (asked w v) (p v.row.cells) (q v.row.cells) i)
        (either_bag first second
        (λ v m. only_one (asked w v) (p v.row.cells) (q v.row.cells) (apart v.row.cells) m) (live h t)) in
        subst (λ vs. SameBag vs
        (filter (λ (v : Version). asked w v && (p v.row.cells || q v.row.cells)) (live h t)))
        (sym (map-append version_of xs ys))
        (same-trans (same-append a.versions b.versions) (same-sym parted));
    ids = All-append (Names h t) xs ys a.ids b.ids;
    once = λ id v at.
        count-append (λ (s : code.Version). nat_eq s.id id) xs ys
        ∙ (λ i. a.once id v at i + b.once id v at i)
        ∙ counted (alive v) (asked w v) (p v.row.cells) (q v.row.cells) (apart v.row.cells);
    copies = λ within copies working r.
        let all = versions_found (when_of w) (seen_by h.working copies working t) in
        subst (λ vs. SameBag vs (filter (λ (v : Version). p v.row.cells || q v.row.cells) all))
        (sym (map-append version_of xs ys))
        (same-trans (same-append (a.copies within copies working r) (b.copies within copies working r))
        (same-sym (either_bag (λ (v : Version). p v.row.cells) (λ (v : Version). q v.row.cells)
        (λ v m. apart v.row.cells m) all)));
  }

  -- no row passes no test
  none_asked : (xs : List Version) → filter (λ (v : Version). asked w v && false) xs ≡ []
  none_asked [] = refl
  none_asked (v ∷ vs) = by_test (asked w v) (none_asked vs)
    where
      by_test : (b : Bool) → filter (λ (u : Version). asked w u && false) vs ≡ []
          → cond (b && false) (v ∷ filter (λ (u : Version). asked w u && false) vs)
          (filter (λ (u : Version). asked w u && false) vs)
          ≡ []
      by_test true e = e
      by_test false e = e

  none_passes : (xs : List Version) → filter (λ (v : Version). false) xs ≡ []
  none_passes [] = refl
  none_passes (v ∷ vs) = none_passes vs

  not_once : (l a : Bool) → ◌≡◌ {A = ℕ} 0 (cond (l && (a && false)) 1 0)
  not_once false a = refl
  not_once true false = refl
  not_once true true = refl

  pub found_none : IsFound h t w (λ row. false) []
  found_none = record {
    versions = subst (SameBag []) (sym (none_asked (live h t))) (same-refl []);
    ids = All-from_recursion (Names h t) [] tt;
    once = λ id v at. not_once (alive v) (asked w v);
    copies = λ within copies working r.
        subst (SameBag []) (sym (none_passes (versions_found (when_of w) (seen_by h.working copies working t))))
        (same-refl []);
  }

-- ---- one value after another

module _ (column : ℕ) where
  or_none : (b : Bool) → (b || false) ≡ b
  or_none true = refl
  or_none false = refl

  -- a row with one of the values, or with one more
  any_more : (vs : List Datum) (v : Datum) (row : Row)
      → (has_any column vs row || is_at (column ∷ []) (v ∷ []) row) ≡ has_any column (vs ++ v ∷ []) row
  any_more vs v row =
      let here = λ (u : Datum). is_at (column ∷ []) (u ∷ []) row in
      ap (λ b. has_any column vs row || b) (sym (or_none (here v))) ∙ sym (list_any-append here vs (v ∷ []))

  -- a row with none of the values does not have the one at an index
  not_at : (vs : List Datum) (i : ℕ) → i < length vs → (row : Row) → has_any column vs row ≡ false
      → is_at (column ∷ []) (get_or vs i Null ∷ []) row ≡ false
  not_at [] i l row none = absurd (omega (arith, l))
  not_at (v ∷ vs) zero l row none = first (is_at (column ∷ []) (v ∷ []) row) (has_any column vs row) none
    where
      first : (a b : Bool) → (a || b) ≡ false → a ≡ false
      first true b e = absurd (cc)
      first false b e = refl
  not_at (v ∷ vs) (suc i) l row none =
      not_at vs i (omega (arith, l)) row (rest (is_at (column ∷ []) (v ∷ []) row) (has_any column vs row) none)
    where
      rest : (a b : Bool) → (a || b) ≡ false → b ≡ false
      rest true b e = absurd (cc)
      rest false b e = e

  -- a row with one of the values before an index does not have the one at it
  apart_at : (vs : List Datum) (i : ℕ) → i < length vs → are_distinct vs ≡ true → (row : Row)
      → has_any column (take i vs) row ≡ true → is_at (column ∷ []) (get_or vs i Null ∷ []) row ≡ false
  apart_at [] i l d row m = absurd (omega (arith, l))
  apart_at (v ∷ vs) zero l d row m = absurd (cc)
  apart_at (v ∷ vs) (suc i) l d row m =
      by_bool (is_at (column ∷ []) (v ∷ []) row)
      (λ e. not_at vs i (omega (arith, l)) row (none_later column v vs d row e))
      (λ e. apart_at vs i (omega (arith, l)) (others_distinct v vs d) row
      (sym (ap (λ b. b || has_any column (take i vs) row) e) ∙ m))

  module _ {V : Type 0} (key : V → Datum) (values : List V) (i : ℕ) (d : V) (l : i < length values) where
    -- the value at an index
    at_index : get_or (map key values) i Null ≡ key (get_or values i d)
    at_index = get_or-map key values i d Null l

    pub apart_here : are_distinct (map key values) ≡ true → (row : Row)
        → has_any column (map key (take i values)) row ≡ true
        → is_at (column ∷ []) (key (get_or values i d) ∷ []) row ≡ false
    apart_here h row m =
        subst (λ v. is_at (column ∷ []) (v ∷ []) row ≡ false) at_index
        (apart_at (map key values) i (subst (λ n. i < n) (sym (length-map values key)) l) h row
        (subst (λ vs. has_any column vs row ≡ true) (sym (take-map key i values)) m))

    -- the rows found with one more value
    pub any_here : (λ (row : Row). has_any column (map key (take i values)) row
        || is_at (column ∷ []) (key (get_or values i d) ∷ []) row)
        ≡ has_any column (map key (take (i + 1) values))
    any_here =
        (λ j row. any_more (map key (take i values)) (key (get_or values i d)) row j)
        ∙ ap (has_any column) (sym (map_more key values i d l))
