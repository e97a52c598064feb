-- Aggregates of values, and the results of evaluation on a group, do not depend on the order of the rows.
use Rattle.std.proofs.Common.{◌≡◌, Bool, true, false, List, [], ◌∷◌, refl, sym, ap, ◌∙◌, arith, subst}
use Rattle.std.specs.Prelude.{ℤ, pos, ◌+ℤ◌, Option, Some, None, not, if◌then◌else◌}
use Rattle.std.specs.Cmp.{IsTotalOrder}
use Rattle.std.specs.declared.cmp.Ordering.{Ordering}
use Rattle.std.specs.declared.cmp.Ordering.TheVariants.{Less, Equal, Greater}
use Rattle.std.specs.Ordering.{is_gt, is_lt}
use Rattle.std.proofs.lemmas.Int.{ints}
use Rattle.tql_spec.specs.Datum.{Datum, Null, Int, Text, Day, Moment, order, same, is_null, exact}
use Rattle.tql_spec.specs.Expression.{Function, Count, Sum, Min, Max, present, total, best, aggregate}
use Rattle.tql_spec.specs.Bag.{SameBag}
use Rattle.tql_spec.proofs.Bags.{same-filter}
use Rattle.tql_spec.proofs.Members.{same-self, same-is}
use Rattle.tql_spec.proofs.Orders.{order-total, order-ties}
use Rattle.tql_spec.proofs.BagFolds.{folded, AreSteps, same_fold, same_length, not_nothing, not_something}

-- steps whose order does not matter, up to equality
by_equality : {X R : Type 0} (f : X → R → R) → ((x y : X) (a : R) → f x (f y a) ≡ f y (f x a))
    → AreSteps {X = X} {R = R} (λ a b. a ≡ b) f
by_equality f h = record {
  itself = λ a. refl;
  back = λ a b e. sym e;
  along = λ a b c e k. e ∙ k;
  kept = λ x a b e. ap (f x) e;
  exchanged = h;
}

-- the fold of values does not depend on their order, if the order of two steps does not
values_fold : {R : Type 0} (f : Datum → R → R) (z : R) → ((x y : Datum) (a : R) → f x (f y a) ≡ f y (f x a))
    → (vs ws : List Datum) → SameBag vs ws → folded f z vs ≡ folded f z ws
values_fold f z h vs ws b = same_fold same same-self same-is (λ a b. a ≡ b) f (by_equality f h) z vs ws b

-- ---- sums

-- the amount that a value adds to a sum
abbrev amount : Datum → ℤ
amount (Int n) = n
amount _ = pos 0

add_amount : Datum → ℤ → ℤ
add_amount v t = amount v +ℤ t

add_exchanged : (u v : Datum) (t : ℤ) → add_amount u (add_amount v t) ≡ add_amount v (add_amount u t)
unfolding add_amount
add_exchanged u v t = omega (arith, ints)

total_fold : (vs : List Datum) → total vs ≡ folded add_amount (pos 0) vs
unfolding add_amount
total_fold [] = refl
total_fold (Null ∷ vs) = let h = total_fold vs in h ∙ omega (arith, ints)
total_fold (Int n ∷ vs) = ap (λ t. n +ℤ t) (total_fold vs)
total_fold (Text t ∷ vs) = let h = total_fold vs in h ∙ omega (arith, ints)
total_fold (Day d ∷ vs) = let h = total_fold vs in h ∙ omega (arith, ints)
total_fold (Moment m ∷ vs) = let h = total_fold vs in h ∙ omega (arith, ints)

total_same : (vs ws : List Datum) → SameBag vs ws → total vs ≡ total ws
total_same vs ws h = total_fold vs ∙ values_fold add_amount (pos 0) add_exchanged vs ws h ∙ sym (total_fold ws)

-- ---- minimum and maximum

-- a strict total order, as a test; values that tie are equal
record IsStrict (better : Datum → Datum → Bool) : Type 0 where
  one_way : (a b : Datum) → better a b ≡ true → better b a ≡ false
  ties : (a b : Datum) → better a b ≡ false → better b a ≡ false → a ≡ b
  along : (a b c : Datum) → better b a ≡ false → better b c ≡ true → better a c ≡ true

module _ (R : Datum → Datum → Ordering) (o : IsTotalOrder R) (one : (a b : Datum) → R a b ≡ Equal → a ≡ b) where
  abbrev lower : Datum → Datum → Bool
  lower a b = is_lt (R a b)

  lower_one_way : (a b : Datum) → lower a b ≡ true → lower b a ≡ false
  lower_one_way a b h = elim (R a b) as (λ r. R a b ≡ r → lower b a ≡ false) [
    | Less ↦ λ e. rw (o.antisymm b a, e) refl
    | Equal ↦ λ e. rw (o.antisymm b a, e) refl
    | Greater ↦ λ e. absurd (let k : is_lt Greater ≡ true = subst (λ r. is_lt r ≡ true) e h in cc)
  ] refl

  lower_ties : (a b : Datum) → lower a b ≡ false → lower b a ≡ false → a ≡ b
  lower_ties a b h k = elim (R a b) as (λ r. R a b ≡ r → a ≡ b) [
    | Less ↦ λ e. absurd (let f : is_lt Less ≡ false = subst (λ r. is_lt r ≡ false) e h in cc)
    | Equal ↦ λ e. one a b e
    | Greater ↦ λ e.
        let q : R b a ≡ Less = o.antisymm b a ∙ rw e refl in
        absurd (let f : is_lt Less ≡ false = subst (λ r. is_lt r ≡ false) q k in cc)
  ] refl

  is_less : (a b : Datum) → lower a b ≡ true → R a b ≡ Less
  is_less a b h = elim (R a b) as (λ r. is_lt r ≡ true → r ≡ Less) [
    | Less ↦ λ e. refl
    | Equal ↦ λ e. absurd (cc)
    | Greater ↦ λ e. absurd (cc)
  ] h

  lower_along : (a b c : Datum) → lower b a ≡ false → lower b c ≡ true → lower a c ≡ true
  lower_along a b c h k = elim (R a b) as (λ r. R a b ≡ r → lower a c ≡ true) [
    | Less ↦ λ e. ap is_lt (o.trans a b c e (is_less b c k))
    | Equal ↦ λ e. ap is_lt (o.congr a b c e) ∙ k
    | Greater ↦ λ e.
        let q : R b a ≡ Less = o.antisymm b a ∙ rw e refl in
        absurd (let f : is_lt Less ≡ false = subst (λ r. is_lt r ≡ false) q h in cc)
  ] refl

  strict : IsStrict lower
  strict = record { one_way = lower_one_way; ties = lower_ties; along = lower_along }

-- the order reversed
abbrev behind : Datum → Datum → Ordering
behind a b = order b a

behind-total : IsTotalOrder behind
behind-total = record {
  antisymm = λ x y. order-total.antisymm y x;
  trans = λ x y z h k. order-total.trans z y x k h;
  congr = λ x y z h. ap (order z) (sym (order-ties y x h));
}

behind-ties : (a b : Datum) → behind a b ≡ Equal → a ≡ b
behind-ties a b e = sym (order-ties b a e)

greater_is : (a b : Datum) → is_gt (order a b) ≡ is_lt (behind a b)
greater_is a b = elim (order b a) as (λ r. order b a ≡ r → is_gt (order a b) ≡ is_lt r) [
  | Less ↦ λ e. rw (order-total.antisymm a b, e) refl
  | Equal ↦ λ e. rw (order-total.antisymm a b, e) refl
  | Greater ↦ λ e. rw (order-total.antisymm a b, e) refl
] refl

module _ (better : Datum → Datum → Bool) (s : IsStrict better) where
  -- the better of two values, or the second if neither is better
  abbrev pick : Datum → Datum → Datum
  pick b v = if better b v then b else v

  abbrev pick_step : Datum → Option Datum → Option Datum
  pick_step v None = Some v
  pick_step v (Some b) = Some (pick b v)

  or_null : Option Datum → Datum
  or_null None = Null
  or_null (Some v) = v

  pick_by : (a b : Datum) (c : Bool) → better a b ≡ c → pick a b ≡ (if c then a else b)
  pick_by a b c e = ap (λ d. if d then a else b) e

  pick_either : (a b : Datum) → pick a b ≡ pick b a
  pick_either a b = elim (better a b) as (λ c. better a b ≡ c → pick a b ≡ pick b a) [
    | true ↦ λ e. pick_by a b true e ∙ sym (pick_by b a false (s.one_way a b e))
    | false ↦ λ e. elim (better b a) as (λ d. better b a ≡ d → pick a b ≡ pick b a) [
      | true ↦ λ k. pick_by a b false e ∙ sym (pick_by b a true k)
      | false ↦ λ k. pick_by a b false e ∙ sym (s.ties a b e k) ∙ sym (pick_by b a false k)
    ] refl
  ] refl

  pick_three : (b u v : Datum) (c d : Bool) → better b v ≡ c → better b u ≡ d → pick (pick b v) u ≡ pick (pick b u) v
  pick_three b u v true true e k =
      ap (λ x. pick x u) (pick_by b v true e) ∙ pick_by b u true k
      ∙ sym (ap (λ x. pick x v) (pick_by b u true k) ∙ pick_by b v true e)
  pick_three b u v true false e k =
      ap (λ x. pick x u) (pick_by b v true e) ∙ pick_by b u false k
      ∙ sym (ap (λ x. pick x v) (pick_by b u false k) ∙ pick_by u v true (s.along u b v k e))
  pick_three b u v false true e k =
      ap (λ x. pick x u) (pick_by b v false e) ∙ pick_by v u true (s.along v b u e k)
      ∙ sym (ap (λ x. pick x v) (pick_by b u true k) ∙ pick_by b v false e)
  pick_three b u v false false e k =
      ap (λ x. pick x u) (pick_by b v false e) ∙ pick_either v u
      ∙ sym (ap (λ x. pick x v) (pick_by b u false k))

  pick_exchanged : (u v : Datum) (o : Option Datum) → pick_step u (pick_step v o) ≡ pick_step v (pick_step u o)
  pick_exchanged u v None = ap Some (pick_either v u)
  pick_exchanged u v (Some b) = ap Some (pick_three b u v (better b v) (better b u) refl refl)

  best_some : (v : Datum) (vs : List Datum) → folded pick_step None (v ∷ vs) ≡ Some (best better (v ∷ vs))
  best_some v [] = refl
  best_some v (w ∷ vs) = ap (pick_step v) (best_some w vs)

  best_fold : (vs : List Datum) → best better vs ≡ or_null (folded pick_step None vs)
  unfolding or_null
  best_fold [] = refl
  best_fold (v ∷ vs) = sym (ap or_null (best_some v vs))

  best_same : (vs ws : List Datum) → SameBag vs ws → best better vs ≡ best better ws
  best_same vs ws h = best_fold vs ∙ ap or_null (values_fold pick_step None pick_exchanged vs ws h) ∙ sym (best_fold ws)

least_same : (vs ws : List Datum) → SameBag vs ws
    → best (λ a b. is_lt (order a b)) vs ≡ best (λ a b. is_lt (order a b)) ws
least_same = best_same (λ a b. is_lt (order a b)) (strict order order-total order-ties)

greatest_is : (vs : List Datum) → best (λ a b. is_gt (order a b)) vs ≡ best (λ a b. is_lt (behind a b)) vs
greatest_is vs = λ i. best (λ a b. greater_is a b i) vs

greatest_same : (vs ws : List Datum) → SameBag vs ws
    → best (λ a b. is_gt (order a b)) vs ≡ best (λ a b. is_gt (order a b)) ws
greatest_same vs ws h =
    greatest_is vs ∙ best_same (λ a b. is_lt (behind a b)) (strict behind behind-total behind-ties) vs ws h
    ∙ sym (greatest_is ws)

-- ---- aggregates

-- an aggregate depends only on the bag of values
pub aggregate_same : (f : Function) (vs ws : List Datum) → SameBag vs ws → aggregate f vs ≡ aggregate f ws
aggregate_same Count vs ws h = ap (λ n. Some (Int (pos n))) (same_length h)
aggregate_same Sum [] [] h = refl
aggregate_same Sum [] (w ∷ ws) h = absurd (not_something w ws h)
aggregate_same Sum (v ∷ vs) [] h = absurd (not_nothing v vs h)
aggregate_same Sum (v ∷ vs) (w ∷ ws) h = ap exact (total_same (v ∷ vs) (w ∷ ws) h)
aggregate_same Min vs ws h = ap Some (least_same vs ws h)
aggregate_same Max vs ws h = ap Some (greatest_same vs ws h)

-- an aggregate of the values that are not null depends only on the bag of values
pub present_same : (f : Function) (vs ws : List Datum) → SameBag vs ws
    → aggregate f (present vs) ≡ aggregate f (present ws)
present_same f vs ws h = aggregate_same f (present vs) (present ws) (same-filter (λ v. not (is_null v)) h)
