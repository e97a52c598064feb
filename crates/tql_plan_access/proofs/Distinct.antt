-- Values in order, one of each.
use Rattle.std.proofs.Common.{◌≡◌, ◌∙◌, refl, sym, ap, subst, Bool, true, false, ◌&&◌, cond, List, [], ◌∷◌, map}
use Rattle.std.proofs.Common.{◌+◌, ◌<◌, arith, get_or, length}
use Rattle.std.specs.Prelude.{◌||◌, not, ltb}
use Rattle.std.specs.List.{AllByRecursion, dedup, dedup_from, list_any}
use Rattle.std.specs.List.Sorted.{IsPermutation, IsSorted, IsSortedBy, IsStrictlySortedBy}
use Rattle.std.specs.Cmp.{Equal-is}
use Rattle.std.specs.Ordering.{is_eq, is_lt, ordering_reverse}
use Rattle.std.specs.declared.cmp.Ordering.TheVariants.{Less}
use Rattle.std.proofs.lemmas.List.{get_or-map, length-map}
use Rattle.std.proofs.lemmas.List.Kept.{IsStrictlySortedBy-dedup}
use Rattle.std.proofs.lemmas.Map.Keys.{Less-from_sorted}
use Rattle.tql_spec.specs.Datum.{Datum, Null, Int, Text, Day, Moment, is_null, order}
use Rattle.tql_spec.proofs.Bags.{same-map, same-permutation}
use Rattle.tql_spec.proofs.Members.{any-total, by_bool}
use Rattle.tql_spec.proofs.Orders.{order-ties, order-total}
use Rattle.tql_plan_laws.specs.Equalities.{agree}
use Rattle.tql_plan_laws.proofs.Equalities.{agree_is, none_agrees}
use Rattle.tql_plan_access.specs.Choices.{are_distinct}

-- whether two values tie
abbrev pub tie : Datum → Datum → Bool
tie x y = is_eq (order x y)

-- values that tie are one value
tied : (x y : Datum) → tie x y ≡ true → x ≡ y
tied x y e = order-ties x y ((Equal-is (order x y)).0 e)

-- leaving out repeated values leaves what tests say of some value
twice : (a b : Bool) → (a || b) ≡ (a || (a || b))
twice true b = refl
twice false b = refl

pub any_once : (p : Datum → Bool) (xs : List Datum) → list_any p (dedup tie xs) ≡ list_any p xs
any_once p [] = refl
any_once p (x ∷ xs) = from x xs
  where
    from : (k : Datum) (xs : List Datum) → list_any p (dedup_from tie k xs) ≡ (p k || list_any p xs)
    from k [] = refl
    from k (x ∷ xs) = by_bool (tie x k)
        (λ e. ap (λ b. list_any p (cond b (dedup_from tie k xs) (k ∷ dedup_from tie x xs))) e ∙ from k xs
        ∙ twice (p k) (list_any p xs)
        ∙ ap (λ y. p k || (p y || list_any p xs)) (sym (tied x k e)))
        (λ e. ap (λ b. list_any p (cond b (dedup_from tie k xs) (k ∷ dedup_from tie x xs))) e
        ∙ ap (λ b. p k || b) (from x xs))

-- the value that is null
pub null_is : (w : Datum) → is_null w ≡ true → w ≡ Null
null_is Null n = refl
null_is (Int i) n = absurd (cc)
null_is (Text t) n = absurd (cc)
null_is (Day i) n = absurd (cc)
null_is (Moment i) n = absurd (cc)

-- a value agrees with none that is above it
none_above : (v : Datum) (vs : List Datum) → AllByRecursion (λ w. order v w ≡ Less) vs → list_any (agree v) vs ≡ false
none_above v [] h = refl
none_above v (w ∷ ws) h = ap (λ b. b || list_any (agree v) ws) (apart w h.0) ∙ none_above v ws h.1
  where
    apart : (w : Datum) → order v w ≡ Less → agree v w ≡ false
    apart w e = by_bool (is_null w)
        (λ n. subst (λ u. agree v u ≡ false) (sym (null_is w n)) (none_agrees v))
        (λ n. agree_is v w n ∙ ap is_eq e)

-- values that rise, none of them null, are distinct
pub rising_distinct : (vs : List Datum) → IsStrictlySortedBy order vs → list_any is_null vs ≡ false
    → are_distinct vs ≡ true
unfolding IsStrictlySortedBy
rising_distinct [] s n = refl
rising_distinct (v ∷ vs) s n =
    let p = or_parts (is_null v) (list_any is_null vs) n in
    ap (λ b. not b && (not (list_any (agree v) vs) && are_distinct vs)) p.0
    ∙ ap (λ b. not b && are_distinct vs) (none_above v vs s.0)
    ∙ rising_distinct vs s.1 p.1
  where
    or_parts : (a b : Bool) → (a || b) ≡ false → (a ≡ false) × (b ≡ false)
    or_parts true b h = absurd (cc)
    or_parts false b h = (refl, h)

-- sorted values, of which one of each is kept
pub kept_distinct : (vs : List Datum) → IsSorted order vs → list_any is_null vs ≡ false
    → are_distinct (dedup tie vs) ≡ true
kept_distinct vs s n =
    rising_distinct (dedup tie vs)
    (IsStrictlySortedBy-dedup order-total {E = tie} (λ x y. refl) vs s) (any_once is_null vs ∙ n)

-- a value that is below another is not above it
unturned : (x y : Datum) → order x y ≡ Less → is_lt (order y x) ≡ false
unturned x y e = ap is_lt (order-total.antisymm y x ∙ ap ordering_reverse e)

-- values that rise are sorted
rising_sorted : (vs : List Datum) → IsStrictlySortedBy order vs → IsSorted order vs
rising_sorted vs s k d from inside =
    unturned (get_or vs k d) (get_or vs (k + 1) d) (Less-from_sorted order vs k (k + 1) d s (omega arith) inside)

-- sorted values, of which one of each is kept, are sorted
pub kept_sorted : (vs : List Datum) → IsSorted order vs → IsSorted order (dedup tie vs)
kept_sorted vs s = rising_sorted (dedup tie vs) (IsStrictlySortedBy-dedup order-total {E = tie} (λ x y. refl) vs s)

-- ---- lists of values in the code

-- whether some value passes a test does not depend on the order
pub any_moved : {X : Type 0} (key : X → Datum) (p : Datum → Bool) (xs ys : List X) → IsPermutation xs ys
    → list_any p (map key ys) ≡ list_any p (map key xs)
any_moved key p xs ys m =
    let h = same-map key (same-permutation m) in
    any-total p (map key ys) ∙ ap (ltb 0) (sym (h.totals (λ x. cond (p x) 1 0))) ∙ sym (any-total p (map key xs))

-- sorting by a value sorts the values
pub sorted_by_key : {X : Type 0} (key : X → Datum) (rows : List X)
    → IsSortedBy (λ x y. is_lt (order (key x) (key y))) rows → IsSorted order (map key rows)
sorted_by_key key [] s k d l h = absurd (omega (arith, h))
sorted_by_key key (x ∷ xs) s k d l h =
    let n : length (map key (x ∷ xs)) ≡ length (x ∷ xs) = length-map (x ∷ xs) key in
    let p : k + 1 < length (x ∷ xs) = omega (arith, h, n) in
    let q : k < length (x ∷ xs) = omega (arith, p) in
    rw (get_or-map key (x ∷ xs) (k + 1) x d p, get_or-map key (x ∷ xs) k x d q) (s k x l p)

-- leaving out what repeats a value leaves out repeated values
pub dedup-map : {X : Type 0} (key : X → Datum) (xs : List X)
    → map key (dedup (λ x y. tie (key x) (key y)) xs) ≡ dedup tie (map key xs)
dedup-map {X} key [] = refl
dedup-map {X} key (x ∷ xs) = from x xs
  where
    from : (k : X) (xs : List X)
        → map key (dedup_from (λ x y. tie (key x) (key y)) k xs) ≡ dedup_from tie (key k) (map key xs)
    from k [] = refl
    from k (x ∷ xs) = by_bool (tie (key x) (key k))
        (λ e. ap (λ b. map key
        (cond b (dedup_from (λ x y. tie (key x) (key y)) k xs) (k ∷ dedup_from (λ x y. tie (key x) (key y)) x xs))) e
        ∙ from k xs ∙ sym (ap
        (λ b. cond b (dedup_from tie (key k) (map key xs)) (key k ∷ dedup_from tie (key x) (map key xs))) e))
        (λ e. ap (λ b. map key
        (cond b (dedup_from (λ x y. tie (key x) (key y)) k xs) (k ∷ dedup_from (λ x y. tie (key x) (key y)) x xs))) e
        ∙ ap (λ zs. key k ∷ zs) (from x xs)
        ∙ sym (ap
        (λ b. cond b (dedup_from tie (key k) (map key xs)) (key k ∷ dedup_from tie (key x) (map key xs))) e))
