-- Rows in the order in which they are printed, with and without duplicates.
use Rattle.std.proofs.Common.{◌≡◌, ◌<◌, ◌+◌, suc, Bool, true, false, not, cond, List, [], ◌∷◌, map, filter, length}
use Rattle.std.proofs.Common.{get_or, refl, sym, ap, ◌∙◌, subst, arith}
use Rattle.std.specs.Prelude.{if◌then◌else◌}
use Rattle.std.specs.Cmp.{IsTotalOrder}
use Rattle.std.specs.declared.cmp.Ordering.{Ordering}
use Rattle.std.specs.declared.cmp.Ordering.TheVariants.{Less, Equal, Greater}
use Rattle.std.specs.Ordering.{ordering_reverse, is_eq, is_lt, is_gt}
use Rattle.std.specs.List.{dedup, dedup_from, AllByRecursion}
use Rattle.std.specs.List.Sorted.{IsSorted, IsSortedBy, IsStrictlySortedBy}
use Rattle.std.proofs.lemmas.Cmp.{tied_itself}
use Rattle.std.proofs.lemmas.List.{get_or-map, length-map}
use Rattle.std.proofs.lemmas.List.Kept.{IsStrictlySortedBy-dedup}
use Rattle.tql_spec.specs.Bag.{SameBag}
use Rattle.tql_spec.specs.Datum.{Row, same_row}
use Rattle.tql_spec.specs.Query.{OrderKey, by_columns, row_order, placed, in_order, distinct_rows}
use Rattle.tql_spec.specs.QueryLaws.{OrderIsOne, DistinctKeepsNoOrder}
use Rattle.tql_spec.proofs.Members.{by_bool, same_row-self, same_row-is}
use Rattle.tql_spec.proofs.Orders.{by_columns-total, by_columns-ties}
use Rattle.tql_spec.proofs.OrderBags.{row_order_total, row_order_ties}

-- ---- rows that tie are equal

-- rows are equal if and only if they tie
one_by : (R : Row → Row → Ordering) → IsTotalOrder R → ((a b : Row) → R a b ≡ Equal → a ≡ b) → (a b : Row)
    → is_eq (R a b) ≡ same_row a b
one_by R o ties a b = by_bool (same_row a b)
    (λ e. subst (λ z. is_eq (R a z) ≡ same_row a b) (same_row-is a b e) (ap is_eq (tied_itself o a) ∙ sym e))
    (λ e. elim (R a b) as (λ r. R a b ≡ r → is_eq r ≡ same_row a b) [
      | Less ↦ λ f. sym e
      | Equal ↦ λ f. let g : same_row a b ≡ true = subst (λ z. same_row a z ≡ true) (ties a b f) (same_row-self a) in cc
      | Greater ↦ λ f. sym e
    ] refl)

-- ---- sorted rows are in order

not_above : (o : Ordering) → is_lt (ordering_reverse o) ≡ false → is_gt o ≡ false
not_above Less e = refl
not_above Equal e = refl
not_above Greater e = e

-- an element that is not greater than the first is placed before it
stays : (R : Row → Row → Ordering) (x y : Row) (ys : List Row) → is_gt (R x y) ≡ false
    → placed R x (y ∷ ys) ≡ x ∷ y ∷ ys
stays R x y ys e = ap (λ b. if b then y ∷ placed R x ys else x ∷ y ∷ ys) e

rest_sorted : {A : Type 0} (lt : A → A → Bool) (x : A) (xs : List A) → IsSortedBy lt (x ∷ xs) → IsSortedBy lt xs
rest_sorted lt x xs s k d l h =
    let e : suc k + 1 ≡ suc (k + 1) = omega arith in
    subst (λ n. lt (get_or (x ∷ xs) n d) (get_or xs k d) ≡ false) e (s (suc k) d (omega arith) (omega (arith, h)))

pub sorted_stays : (keys : List OrderKey) (rows : List Row) → IsSorted (row_order keys) rows → in_order keys rows ≡ rows
sorted_stays keys [] s = refl
sorted_stays keys (x ∷ []) s = refl
sorted_stays keys (x ∷ y ∷ rest) s =
    let later = sorted_stays keys (y ∷ rest) (rest_sorted (λ a b. is_lt (row_order keys a b)) x (y ∷ rest) s) in
    let first : is_lt (row_order keys y x) ≡ false = s 0 x (omega arith) (omega arith) in
    let back : row_order keys y x ≡ ordering_reverse (row_order keys x y) = (row_order_total keys).antisymm y x in
    ap (placed (row_order keys) x) later
    ∙ stays (row_order keys) x y rest (not_above (row_order keys x y) (ap is_lt (sym back) ∙ first))

-- ---- rows without duplicates

twice_filtered : {A : Type 0} (p : A → Bool) (xs : List A) → filter p (filter p xs) ≡ filter p xs
twice_filtered p [] = refl
twice_filtered p (x ∷ xs) = by_bool (p x)
    (λ e. ap (λ b. filter p (cond b (x ∷ filter p xs) (filter p xs))) e
    ∙ ap (λ b. cond b (x ∷ filter p (filter p xs)) (filter p (filter p xs))) e
    ∙ ap (λ zs. x ∷ zs) (twice_filtered p xs) ∙ sym (ap (λ b. cond b (x ∷ filter p xs) (filter p xs)) e))
    (λ e. ap (λ b. filter p (cond b (x ∷ filter p xs) (filter p xs))) e ∙ twice_filtered p xs
    ∙ sym (ap (λ b. cond b (x ∷ filter p xs) (filter p xs)) e))

-- adjacent equal rows count as one
beside : (k : Row) (rows : List Row) → distinct_rows (k ∷ k ∷ rows) ≡ distinct_rows (k ∷ rows)
beside k rows =
    let less : List Row = filter (λ s. not (same_row k s)) (distinct_rows rows) in
    ap (λ b. k ∷ cond (not b) (k ∷ filter (λ s. not (same_row k s)) less) (filter (λ s. not (same_row k s)) less))
    (same_row-self k)
    ∙ ap (λ zs. k ∷ zs) (twice_filtered (λ s. not (same_row k s)) (distinct_rows rows))

-- the rows left after adjacent equal rows are merged
still_distinct : (k : Row) (rows : List Row) → distinct_rows (dedup_from same_row k rows) ≡ distinct_rows (k ∷ rows)
still_distinct k [] = refl
still_distinct k (x ∷ rows) = by_bool (same_row x k)
    (λ e. ap (λ b. distinct_rows (cond b (dedup_from same_row k rows) (k ∷ dedup_from same_row x rows))) e
    ∙ still_distinct k rows ∙ sym (beside k rows) ∙ ap (λ z. distinct_rows (k ∷ z ∷ rows)) (sym (same_row-is x k e)))
    (λ e. ap (λ b. distinct_rows (cond b (dedup_from same_row k rows) (k ∷ dedup_from same_row x rows))) e
    ∙ ap (λ zs. k ∷ filter (λ s. not (same_row k s)) zs) (still_distinct x rows))

-- strictly sorted rows are pairwise different
none_like : (R : Row → Row → Ordering) → IsTotalOrder R → ((a b : Row) → R a b ≡ Equal → a ≡ b)
    → (x : Row) (rows : List Row)
    → AllByRecursion (λ y. R x y ≡ Less) rows → filter (λ s. not (same_row x s)) rows ≡ rows
none_like R o ties x [] h = refl
none_like R o ties x (y ∷ rows) h =
    let e : same_row x y ≡ false = sym (one_by R o ties x y) ∙ ap is_eq h.0 in
    ap (λ b. cond (not b) (y ∷ filter (λ s. not (same_row x s)) rows) (filter (λ s. not (same_row x s)) rows)) e
    ∙ ap (λ zs. y ∷ zs) (none_like R o ties x rows h.1)

strict_distinct : (R : Row → Row → Ordering) → IsTotalOrder R → ((a b : Row) → R a b ≡ Equal → a ≡ b)
    → (rows : List Row)
    → IsStrictlySortedBy R rows → distinct_rows rows ≡ rows
unfolding IsStrictlySortedBy
strict_distinct R o ties [] h = refl
strict_distinct R o ties (x ∷ rows) h =
    ap (λ zs. x ∷ filter (λ s. not (same_row x s)) zs) (strict_distinct R o ties rows h.1)
    ∙ ap (λ zs. x ∷ zs) (none_like R o ties x rows h.0)

strict_in_order : (keys : List OrderKey) (rows : List Row) → IsStrictlySortedBy (row_order keys) rows
    → in_order keys rows ≡ rows
unfolding IsStrictlySortedBy
strict_in_order keys [] h = refl
strict_in_order keys (x ∷ []) h = refl
strict_in_order keys (x ∷ y ∷ rows) h =
    ap (placed (row_order keys) x) (strict_in_order keys (y ∷ rows) h.1)
    ∙ stays (row_order keys) x y rows (ap is_gt h.0.0)

-- ---- the printed rows

pub rows_printed : OrderIsOne → (keys : List OrderKey) (rows bag : List Row) → IsSorted (row_order keys) rows
    → SameBag rows bag → rows ≡ in_order keys bag
rows_printed one keys rows bag s b = sym (sorted_stays keys rows s) ∙ one keys rows bag b

pub distinct_printed : OrderIsOne → DistinctKeepsNoOrder → (keys : List OrderKey) (rows bag : List Row)
    → IsSorted (row_order keys) rows → SameBag rows bag
    → dedup same_row rows ≡ in_order keys (distinct_rows bag)
distinct_printed one distinct keys rows bag s b =
    let R : Row → Row → Ordering = row_order keys in
    let ties : (x y : Row) → R x y ≡ Equal → x ≡ y = row_order_ties keys in
    let strict : IsStrictlySortedBy R (dedup same_row rows) =
    IsStrictlySortedBy-dedup (row_order_total keys) (λ x y. sym (one_by R (row_order_total keys) ties x y)) rows s in
    sym (strict_in_order keys (dedup same_row rows) strict)
    ∙ ap (in_order keys) (sym (strict_distinct R (row_order_total keys) ties (dedup same_row rows) strict) ∙ whole rows)
    ∙ one keys (distinct_rows rows) (distinct_rows bag) (distinct true rows bag b)
  where
    whole : (rows : List Row) → distinct_rows (dedup same_row rows) ≡ distinct_rows rows
    whole [] = refl
    whole (x ∷ rows) = still_distinct x rows

-- ---- lists whose elements represent rows

-- sorted by the rows that the elements represent
pub sorted_rows : {A : Type 0} (R : Row → Row → Ordering) (view : A → Row) (xs : List A)
    → IsSortedBy (λ x y. is_lt (R (view x) (view y))) xs → IsSorted R (map view xs)
sorted_rows R view [] s k d l h = absurd (omega (arith, h))
sorted_rows {A} R view (x ∷ xs) s k d l h =
    let n : length (map view (x ∷ xs)) ≡ length (x ∷ xs) = length-map (x ∷ xs) view in
    let p : k + 1 < length (x ∷ xs) = omega (arith, h, n) in
    let q : k < length (x ∷ xs) = omega (arith, p) in
    rw (get_or-map view (x ∷ xs) (k + 1) x d p, get_or-map view (x ∷ xs) k x d q) (s k x l p)

-- the elements that dedup keeps
pub dedup-map : {A : Type 0} (view : A → Row) (E : Row → Row → Bool) (xs : List A)
    → map view (dedup (λ x y. E (view x) (view y)) xs) ≡ dedup E (map view xs)
dedup-map {A} view E [] = refl
dedup-map {A} view E (x ∷ xs) = from x xs
  where
    from : (k : A) (xs : List A)
        → map view (dedup_from (λ x y. E (view x) (view y)) k xs) ≡ dedup_from E (view k) (map view xs)
    from k [] = refl
    from k (x ∷ xs) = by_bool (E (view x) (view k))
        (λ e. ap (λ b. map view
        (cond b (dedup_from (λ x y. E (view x) (view y)) k xs) (k ∷ dedup_from (λ x y. E (view x) (view y)) x xs))) e
        ∙ from k xs ∙ sym (ap
        (λ b. cond b (dedup_from E (view k) (map view xs)) (view k ∷ dedup_from E (view x) (map view xs))) e))
        (λ e. ap (λ b. map view
        (cond b (dedup_from (λ x y. E (view x) (view y)) k xs) (k ∷ dedup_from (λ x y. E (view x) (view y)) x xs))) e
        ∙ ap (λ zs. view k ∷ zs) (from x xs)
        ∙ sym (ap (λ b. cond b (dedup_from E (view k) (map view xs)) (view k ∷ dedup_from E (view x) (map view xs))) e))

-- rows tie if and only if they are equal
pub ties_where_one : (a b : Row) → is_eq (by_columns a b) ≡ same_row a b
ties_where_one a b = one_by by_columns by_columns-total by_columns-ties a b
