-- The order of lists that are joined.
use Rattle.std.specs.Prelude.{◌≡◌, refl, ℕ, zero, suc, ◌+◌, ◌<◌, ◌≤◌, false, List, [], ◌∷◌, ◌++◌}
use Rattle.std.specs.Prelude.{length, Contains}
use Rattle.std.specs.List.{sum_by}
use Rattle.std.proofs.Common.{arith, cond, get_or, subst}
use Rattle.std.proofs.lemmas.List.{get_or_default}
use Rattle.std.proofs.lemmas.List.Sums.{sum_by-cons}
use Rattle.tql_spec.specs.Bag.{SameBag}
use Rattle.tql_index.specs.Entry.{Entry}
use Rattle.tql_index.specs.Tree.{is_before, before, after, inversions, IsInOrder}
use Rattle.tql_index.proofs.Counts.{count-cons, count-append, member_none}
use Rattle.tql_index.proofs.Order.{not_itself}

-- the number of pairs of an entry of xs and one of ys that is before it
abbrev pub crossings : List Entry → List Entry → ℕ
crossings xs ys = sum_by (λ x. before x ys) xs

pub inversions-append : (xs ys : List Entry) → inversions (xs ++ ys)
    ≡ inversions xs + (crossings xs ys + inversions ys)
inversions-append [] ys = omega arith
inversions-append (x ∷ xs) ys = omega (
  arith,
  count-append (λ y. is_before y x) xs ys,
  sum_by-cons (λ z. before z ys) x xs,
  inversions-append xs ys,
)

pub crossings-append_right : (xs ys zs : List Entry) → crossings xs (ys ++ zs) ≡ crossings xs ys + crossings xs zs
crossings-append_right [] ys zs = refl
crossings-append_right (x ∷ xs) ys zs = omega (
  arith,
  sum_by-cons (λ z. before z (ys ++ zs)) x xs,
  sum_by-cons (λ z. before z ys) x xs,
  sum_by-cons (λ z. before z zs) x xs,
  count-append (λ y. is_before y x) ys zs,
  crossings-append_right xs ys zs,
)

pub crossings-cons_left : (e : Entry) (xs ys : List Entry) → crossings (e ∷ xs) ys ≡ before e ys + crossings xs ys
crossings-cons_left e xs ys = sum_by-cons (λ z. before z ys) e xs

pub crossings-cons_right : (xs : List Entry) (e : Entry) (ys : List Entry) → crossings xs (e ∷ ys)
    ≡ after e xs + crossings xs ys
crossings-cons_right [] e ys = refl
crossings-cons_right (x ∷ xs) e ys = omega (
  arith,
  sum_by-cons (λ z. before z (e ∷ ys)) x xs,
  sum_by-cons (λ z. before z ys) x xs,
  count-cons (λ y. is_before y x) e ys,
  count-cons (λ y. is_before e y) x xs,
  crossings-cons_right xs e ys,
)

pub crossings-bag_left : (xs ys zs : List Entry) → SameBag xs ys → crossings xs zs ≡ crossings ys zs
crossings-bag_left xs ys zs s = s.totals (λ x. before x zs)

pub crossings-bag_right : (xs ys zs : List Entry) → SameBag ys zs → crossings xs ys ≡ crossings xs zs
crossings-bag_right [] ys zs s = refl
crossings-bag_right (x ∷ xs) ys zs s = omega (
  arith,
  sum_by-cons (λ z. before z ys) x xs,
  sum_by-cons (λ z. before z zs) x xs,
  s.totals (λ y. cond (is_before y x) 1 0),
  crossings-bag_right xs ys zs s,
)

-- ---- members

-- nothing on the right is before a member of the left
pub at_left : (xs ys : List Entry) (x : Entry) → crossings xs ys ≡ 0 → Contains xs x → before x ys ≡ 0
at_left [] ys x h (k, l, e) = absurd (omega (arith, l))
at_left (y ∷ xs) ys x h (zero, l, e) =
    subst (λ z. before z ys ≡ 0) e (omega (arith, crossings-cons_left y xs ys, h))
at_left (y ∷ xs) ys x h (suc k, l, e) =
    at_left xs ys x (omega (arith, crossings-cons_left y xs ys, h)) (k, omega arith, e)

-- nothing on the left is after a member of the right
pub at_right : (xs ys : List Entry) (y : Entry) → crossings xs ys ≡ 0 → Contains ys y → after y xs ≡ 0
at_right xs [] y h (k, l, e) = absurd (omega (arith, l))
at_right xs (z ∷ ys) y h (zero, l, e) =
    subst (λ w. after w xs ≡ 0) e (omega (arith, crossings-cons_right xs z ys, h))
at_right xs (z ∷ ys) y h (suc k, l, e) =
    at_right xs ys y (omega (arith, crossings-cons_right xs z ys, h)) (k, omega arith, e)

-- of two entries by index, the later is not before the earlier
pub not_before_at : (xs : List Entry) (j k : ℕ) (d : Entry) → IsInOrder xs → j ≤ k → k < length xs
    → is_before (get_or xs k d) (get_or xs j d) ≡ false
not_before_at [] j k d h l m = absurd (omega (arith, m))
not_before_at (x ∷ xs) zero zero d h l m = not_itself x
not_before_at (x ∷ xs) zero (suc k) d h l m =
    member_none (λ y. is_before y x) xs (get_or xs k d) (omega (arith, h)) (
      k,
      omega (arith, m),
      get_or_default xs k (get_or xs k d) d (omega (arith, m)),
    )
not_before_at (x ∷ xs) (suc j) zero d h l m = absurd (omega (arith, l))
not_before_at (x ∷ xs) (suc j) (suc k) d h l m =
    not_before_at xs j k d (omega (arith, h)) (omega (arith, l)) (omega (arith, m))

-- ---- three parts

-- the parts of a list in order are in order, and so are entries of different parts
pub record InParts (l m r : List Entry) : Type 0 where
  pub left : inversions l ≡ 0
  pub middle : inversions m ≡ 0
  pub right : inversions r ≡ 0
  pub lm : crossings l m ≡ 0
  pub lr : crossings l r ≡ 0
  pub mr : crossings m r ≡ 0

pub in_parts : (l m r : List Entry) → IsInOrder (l ++ (m ++ r)) → InParts l m r
in_parts l m r h =
    let a = inversions-append l (m ++ r) in
    let b = inversions-append m r in
    let c = crossings-append_right l m r in
    record {
      left = omega (arith, a, b, c, h);
      middle = omega (arith, a, b, c, h);
      right = omega (arith, a, b, c, h);
      lm = omega (arith, a, b, c, h);
      lr = omega (arith, a, b, c, h);
      mr = omega (arith, a, b, c, h);
    }

pub of_parts : (l m r : List Entry) → InParts l m r → IsInOrder (l ++ (m ++ r))
of_parts l m r p = omega (
  arith,
  inversions-append l (m ++ r),
  inversions-append m r,
  crossings-append_right l m r,
  p.left,
  p.middle,
  p.right,
  p.lm,
  p.lr,
  p.mr,
)

-- a part of a list in order is in order
pub order_left : (xs ys : List Entry) → IsInOrder (xs ++ ys) → IsInOrder xs
order_left xs ys h = omega (arith, inversions-append xs ys, h)

pub order_right : (xs ys : List Entry) → IsInOrder (xs ++ ys) → IsInOrder ys
order_right xs ys h = omega (arith, inversions-append xs ys, h)
