-- The order of values is total, and a bag has one list in order.
use Rattle.std.proofs.Common.{◌≡◌, ℕ, suc, ◌+◌, ◌<◌, true, false, List, [], ◌∷◌, get_or, refl, sym, ◌∙◌, ap, subst}
use Rattle.std.proofs.Common.{arith}
use Rattle.std.specs.Prelude.{ℤ, pos, if◌then◌else◌}
use Rattle.std.specs.Cmp.{IsTotalOrder}
use Rattle.std.specs.Cmp.Lexicographic.{slice_cmp}
use Rattle.std.specs.declared.cmp.Ordering.{Ordering}
use Rattle.std.specs.declared.cmp.Ordering.TheVariants.{Less, Equal, Greater}
use Rattle.std.specs.Ordering.{int_cmp, nat_cmp, on, then_cmp, ordering_then, is_gt, is_lt, is_eq}
use Rattle.std.specs.List.{sum_by}
use Rattle.std.specs.List.Sorted.{IsSorted}
use Rattle.std.proofs.lemmas.List.Sums.{sum_by-cons}
use Rattle.std.proofs.lemmas.Cmp.{ranked, int_ranked, by_ranked, nat_cmp_total, int_cmp_total, nat_list_cmp_total}
use Rattle.std.proofs.lemmas.Cmp.{on_total, then_total, lists_total, tied_itself, upto}
use Rattle.tql_spec.specs.Datum.{Datum, Null, Int, Text, Day, Moment, Row, order, rank}
use Rattle.tql_spec.specs.Bag.{SameBag}
use Rattle.tql_spec.specs.Query.{by_columns, placed}

-- ---- values

-- the number of a value; 0 for null and texts
number_key : Datum → ℤ
number_key Null = pos 0
number_key (Int n) = n
number_key (Text t) = pos 0
number_key (Day d) = d
number_key (Moment m) = m

-- the bytes of a text; empty for other values
text_key : Datum → List ℕ
text_key Null = []
text_key (Int n) = []
text_key (Text t) = t
text_key (Day d) = []
text_key (Moment m) = []

-- the order by kind, then number, then bytes
by_parts : Datum → Datum → Ordering
by_parts = then_cmp (on rank nat_cmp) (then_cmp (on number_key int_cmp) (on text_key (slice_cmp nat_cmp)))

by_parts-total : IsTotalOrder by_parts
unfolding by_parts
by_parts-total = then_total (on_total rank nat_cmp_total)
    (then_total (on_total number_key int_cmp_total) (on_total text_key nat_list_cmp_total))

then_equal : (o : Ordering) → o ≡ ordering_then o Equal
then_equal Less = refl
then_equal Equal = refl
then_equal Greater = refl

order-parts : (a b : Datum) → order a b ≡ by_parts a b
unfolding by_parts number_key text_key
order-parts Null Null = refl
order-parts Null (Int b) = refl
order-parts Null (Text b) = refl
order-parts Null (Day b) = refl
order-parts Null (Moment b) = refl
order-parts (Int a) Null = refl
order-parts (Int a) (Int b) = then_equal (int_cmp a b)
order-parts (Int a) (Text b) = refl
order-parts (Int a) (Day b) = refl
order-parts (Int a) (Moment b) = refl
order-parts (Text a) Null = refl
order-parts (Text a) (Int b) = refl
order-parts (Text a) (Text b) = refl
order-parts (Text a) (Day b) = refl
order-parts (Text a) (Moment b) = refl
order-parts (Day a) Null = refl
order-parts (Day a) (Int b) = refl
order-parts (Day a) (Text b) = refl
order-parts (Day a) (Day b) = then_equal (int_cmp a b)
order-parts (Day a) (Moment b) = refl
order-parts (Moment a) Null = refl
order-parts (Moment a) (Int b) = refl
order-parts (Moment a) (Text b) = refl
order-parts (Moment a) (Day b) = refl
order-parts (Moment a) (Moment b) = then_equal (int_cmp a b)

pub total_along : {A : Type 0} (R S : A → A → Ordering) → ((a b : A) → S a b ≡ R a b) → IsTotalOrder R → IsTotalOrder S
total_along R S e o = record {
  antisymm = λ x y. rw (e x y, e y x) (o.antisymm x y);
  trans = λ x y z h k. rw (e x z) (o.trans x y z (sym (e x y) ∙ h) (sym (e y z) ∙ k));
  congr = λ x y z h. rw (e x z, e y z) (o.congr x y z (sym (e x y) ∙ h));
}

-- the order of values is total
pub order-total : IsTotalOrder order
order-total = total_along by_parts order order-parts by_parts-total

numbers_tie : (a b : ℤ) → int_cmp a b ≡ Equal → a ≡ b
numbers_tie a b e = by_ranked _ _ _ (int_cmp a b) (int_ranked a b (int_cmp a b) refl) (λ l. cc) (λ _ h. h) (λ g. cc)

nat_tie : (a b : ℕ) → nat_cmp a b ≡ Equal → a ≡ b
nat_tie a b e = by_ranked _ _ _ (nat_cmp a b) (ranked a b (nat_cmp a b) refl) (λ l. cc) (λ _ h. h) (λ g. cc)

then_first : (o p : Ordering) → ordering_then o p ≡ Equal → o ≡ Equal
then_first Less p e = e
then_first Equal p e = refl
then_first Greater p e = e

pub then_second : (o p : Ordering) → ordering_then o p ≡ Equal → p ≡ Equal
then_second Less p e = cc
then_second Equal p e = e
then_second Greater p e = cc

lists_tie : {A : Type 0} (R : A → A → Ordering) → ((a b : A) → R a b ≡ Equal → a ≡ b) → (xs ys : List A)
    → slice_cmp R xs ys ≡ Equal → xs ≡ ys
lists_tie R t [] [] e = refl
lists_tie R t [] (y ∷ ys) e = cc
lists_tie R t (x ∷ xs) [] e = cc
lists_tie R t (x ∷ xs) (y ∷ ys) e =
    let h : x ≡ y = t x y (then_first (R x y) (slice_cmp R xs ys) e) in
    let k : xs ≡ ys = lists_tie R t xs ys (then_second (R x y) (slice_cmp R xs ys) e) in cc

-- values that tie are equal
pub order-ties : (a b : Datum) → order a b ≡ Equal → a ≡ b
order-ties Null Null e = refl
order-ties Null (Int b) e = cc
order-ties Null (Text b) e = cc
order-ties Null (Day b) e = cc
order-ties Null (Moment b) e = cc
order-ties (Int a) Null e = cc
order-ties (Int a) (Int b) e = ap Int (numbers_tie a b e)
order-ties (Int a) (Text b) e = cc
order-ties (Int a) (Day b) e = cc
order-ties (Int a) (Moment b) e = cc
order-ties (Text a) Null e = cc
order-ties (Text a) (Int b) e = cc
order-ties (Text a) (Text b) e = ap Text (lists_tie nat_cmp nat_tie a b e)
order-ties (Text a) (Day b) e = cc
order-ties (Text a) (Moment b) e = cc
order-ties (Day a) Null e = cc
order-ties (Day a) (Int b) e = cc
order-ties (Day a) (Text b) e = cc
order-ties (Day a) (Day b) e = ap Day (numbers_tie a b e)
order-ties (Day a) (Moment b) e = cc
order-ties (Moment a) Null e = cc
order-ties (Moment a) (Int b) e = cc
order-ties (Moment a) (Text b) e = cc
order-ties (Moment a) (Day b) e = cc
order-ties (Moment a) (Moment b) e = ap Moment (numbers_tie a b e)

-- ---- rows

-- the order by columns is the lexicographic order
pub by_columns-lists : (a b : Row) → by_columns a b ≡ slice_cmp order a b
by_columns-lists [] [] = refl
by_columns-lists [] (b ∷ bs) = refl
by_columns-lists (a ∷ as') [] = refl
by_columns-lists (a ∷ as') (b ∷ bs) = ap (ordering_then (order a b)) (by_columns-lists as' bs)

-- the order of rows is total
pub by_columns-total : IsTotalOrder by_columns
by_columns-total = total_along (slice_cmp order) by_columns by_columns-lists (lists_total order-total)

-- rows that tie are equal
pub by_columns-ties : (a b : Row) → by_columns a b ≡ Equal → a ≡ b
by_columns-ties a b e = lists_tie order order-ties a b (sym (by_columns-lists a b) ∙ e)

-- ---- lists in order

-- the list is in ascending order: no element is above the next
abbrev pub Ascends : {A : Type 0} → (A → A → Ordering) → List A → Type 0
Ascends R [] = Unit {0}
Ascends R (x ∷ []) = Unit {0}
Ascends R (x ∷ y ∷ rest) = (is_gt (R x y) ≡ false) × Ascends R (y ∷ rest)

-- the element is not above any element of the list
abbrev IsBelow : {A : Type 0} → (A → A → Ordering) → A → List A → Type 0
IsBelow R x [] = Unit {0}
IsBelow R x (y ∷ ys) = (is_gt (R x y) ≡ false) × IsBelow R x ys

module _ {A : Type 0} (R : A → A → Ordering) (o : IsTotalOrder R) (ties : (a b : A) → R a b ≡ Equal → a ≡ b) where
  below_along : (x y : A) (ys : List A) → is_gt (R x y) ≡ false → IsBelow R y ys → IsBelow R x ys
  below_along x y [] h b = tt
  below_along x y (z ∷ zs) h b = (upto o x y z h b.0, below_along x y zs h b.1)

  first_below : (x : A) (xs : List A) → Ascends R (x ∷ xs) → IsBelow R x xs
  first_below x [] a = tt
  first_below x (y ∷ ys) a = (a.0, below_along x y ys a.0 (first_below y ys a.1))

  rest_ascends : (x : A) (xs : List A) → Ascends R (x ∷ xs) → Ascends R xs
  rest_ascends x [] a = tt
  rest_ascends x (y ∷ ys) a = a.1

  -- 1 for an element that ties with x, else 0
  mark : A → A → ℕ
  mark x y = if is_eq (R x y) then 1 else 0

  -- the marks of a list with one more element in front
  marks : (y z : A) (zs : List A) → sum_by (mark y) (z ∷ zs) ≡ (if is_eq (R y z) then 1 else 0) + sum_by (mark y) zs
  unfolding mark
  marks y z zs = sum_by-cons (mark y) z zs

  -- if x is not above any element of a list with y, x is not above y
  not_above : (x y : A) (ys : List A) → IsBelow R x ys → 0 < sum_by (mark y) ys → is_gt (R x y) ≡ false
  not_above x y [] b h = absurd (let k : 0 < 0 = h in omega (arith, k))
  not_above x y (z ∷ zs) b h = elim (R y z) as (λ r. R y z ≡ r → is_gt (R x y) ≡ false) [
    | Less ↦ λ e. not_above x y zs b.1 (let k : sum_by (mark y) (z ∷ zs) ≡ 0 + sum_by (mark y) zs = marks y z zs
        ∙ rw e refl in omega (arith, k, h))
    | Equal ↦ λ e. subst (λ w. is_gt (R x w) ≡ false) (sym (ties y z e)) b.0
    | Greater ↦ λ e. not_above x y zs b.1 (let k : sum_by (mark y) (z ∷ zs) ≡ 0 + sum_by (mark y) zs = marks y z zs
        ∙ rw e refl in omega (arith, k, h))
  ] refl

  marks_itself : (x : A) (xs : List A) → 0 < sum_by (mark x) (x ∷ xs)
  marks_itself x xs = let k : sum_by (mark x) (x ∷ xs) ≡ 1 + sum_by (mark x) xs = marks x x xs
      ∙ rw (tied_itself o x) refl in omega (arith, k)

  below_itself : (x : A) (xs : List A) → IsBelow R x xs → IsBelow R x (x ∷ xs)
  below_itself x xs b = (rw (tied_itself o x) refl, b)

  -- two elements of which neither is above the other are equal
  neither : (x y : A) → is_gt (R x y) ≡ false → is_gt (R y x) ≡ false → x ≡ y
  neither x y g h = elim (R x y) as (λ r. R x y ≡ r → x ≡ y) [
    | Less ↦ λ e. let k : R y x ≡ Greater = o.antisymm y x ∙ rw e refl in
        absurd (let f : is_gt Greater ≡ false = subst (λ r. is_gt r ≡ false) k h in cc)
    | Equal ↦ λ e. ties x y e
    | Greater ↦ λ e. absurd (let f : is_gt Greater ≡ false = subst (λ r. is_gt r ≡ false) e g in cc)
  ] refl

  tail_bags : (x : A) (xs ys : List A) → SameBag (x ∷ xs) (x ∷ ys) → SameBag xs ys
  tail_bags x xs ys b = record { totals = λ w. omega (arith, b.totals w, sum_by-cons w x xs, sum_by-cons w x ys) }

  never_empty : (x : A) (xs : List A) → SameBag (x ∷ xs) [] → ⊥
  never_empty x xs b = omega (arith, b.totals (mark x), marks_itself x xs)

  same_back : {xs ys : List A} → SameBag xs ys → SameBag ys xs
  same_back b = record { totals = λ w. sym (b.totals w) }

  -- lists in order with the same bag are equal
  pub one_in_order : (xs ys : List A) → Ascends R xs → Ascends R ys → SameBag xs ys → xs ≡ ys
  one_in_order [] [] a b s = refl
  one_in_order [] (y ∷ ys) a b s = absurd (never_empty y ys (same_back s))
  one_in_order (x ∷ xs) [] a b s = absurd (never_empty x xs s)
  one_in_order (x ∷ xs) (y ∷ ys) a b s =
      let p : 0 < sum_by (mark y) (x ∷ xs) = omega (arith, s.totals (mark y), marks_itself y ys) in
      let q : 0 < sum_by (mark x) (y ∷ ys) = omega (arith, s.totals (mark x), marks_itself x xs) in
      let e : x ≡ y = neither x y (not_above x y (x ∷ xs) (below_itself x xs (first_below x xs a)) p)
      (not_above y x (y ∷ ys) (below_itself y ys (first_below y ys b)) q) in
      let t : SameBag (x ∷ xs) (x ∷ ys) = subst (λ z. SameBag (x ∷ xs) (z ∷ ys)) (sym e) s in
      let r : xs ≡ ys = one_in_order xs ys (rest_ascends x xs a) (rest_ascends y ys b) (tail_bags x xs ys t) in cc

-- ---- the order of answers

-- a list that is sorted by positions is in ascending order
pub sorted_ascends : {A : Type 0} (R : A → A → Ordering) → IsTotalOrder R → (xs : List A) → IsSorted R xs → Ascends R xs
sorted_ascends R o [] s = tt
sorted_ascends R o (x ∷ []) s = tt
sorted_ascends R o (x ∷ y ∷ rest) s = (
  flipped R o x y (s 0 x (omega arith) (omega arith)),
  sorted_ascends R o (y ∷ rest) (λ k d l h.
      let e : suc k + 1 ≡ suc (k + 1) = omega arith in
      subst (λ n. is_lt (R (get_or (x ∷ y ∷ rest) n d) (get_or (y ∷ rest) k d)) ≡ false) e
      (s (suc k) d (omega arith) (omega arith))),
)
  where
    flipped : {A : Type 0} (R : A → A → Ordering) → IsTotalOrder R → (x y : A) → is_lt (R y x) ≡ false
        → is_gt (R x y) ≡ false
    flipped R o x y e = elim (R y x) as (λ r. R y x ≡ r → is_gt (R x y) ≡ false) [
      | Less ↦ λ f. absurd (let g : is_lt Less ≡ false = subst (λ r. is_lt r ≡ false) f e in cc)
      | Equal ↦ λ f. rw (o.antisymm x y, f) refl
      | Greater ↦ λ f. rw (o.antisymm x y, f) refl
    ] refl

module _ (R : Row → Row → Ordering) (o : IsTotalOrder R) where
  not_gt : (x y : Row) → is_gt (R x y) ≡ true → is_gt (R y x) ≡ false
  not_gt x y e = elim (R x y) as (λ r. R x y ≡ r → is_gt (R y x) ≡ false) [
    | Less ↦ λ f. absurd (let g : is_gt Less ≡ true = subst (λ r. is_gt r ≡ true) f e in cc)
    | Equal ↦ λ f. absurd (let g : is_gt Equal ≡ true = subst (λ r. is_gt r ≡ true) f e in cc)
    | Greater ↦ λ f. rw (o.antisymm y x, f) refl
  ] refl

  placed_after : (s r : Row) (xs : List Row) → is_gt (R s r) ≡ false → Ascends R (s ∷ xs)
      → Ascends R (s ∷ placed R r xs)
  placed_after s r [] h a = (h, tt)
  placed_after s r (t ∷ rest) h a =
      elim (is_gt (R r t)) as (λ b. is_gt (R r t) ≡ b
      → Ascends R (s ∷ (if b then t ∷ placed R r rest else r ∷ t ∷ rest))) [
        | true ↦ λ e. (a.0, placed_after t r rest (not_gt r t e) a.1)
        | false ↦ λ e. (h, (e, a.1))
      ] refl

  pub placed_ascends : (r : Row) (xs : List Row) → Ascends R xs → Ascends R (placed R r xs)
  placed_ascends r [] a = tt
  placed_ascends r (s ∷ rest) a =
      elim (is_gt (R r s)) as (λ b. is_gt (R r s) ≡ b → Ascends R (if b then s ∷ placed R r rest else r ∷ s ∷ rest)) [
        | true ↦ λ e. placed_after s r rest (not_gt r s e) a
        | false ↦ λ e. (e, a)
      ] refl

  pub placed_bag : (w : Row → ℕ) (r : Row) (xs : List Row) → sum_by w (placed R r xs) ≡ w r + sum_by w xs
  placed_bag w r [] = sum_by-cons w r []
  placed_bag w r (s ∷ rest) =
      elim (is_gt (R r s)) as (λ b. sum_by w (if b then s ∷ placed R r rest else r ∷ s ∷ rest)
      ≡ w r + sum_by w (s ∷ rest)) [
        | true ↦ omega (arith, sum_by-cons w s (placed R r rest), sum_by-cons w s rest, placed_bag w r rest)
        | false ↦ sum_by-cons w r (s ∷ rest)
      ]
