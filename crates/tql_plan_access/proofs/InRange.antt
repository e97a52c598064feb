-- A row that meets conjuncts has a value of the range to which they limit a column, and ranges are found.
use Rattle.std.proofs.Common.{◌≡◌, ◌∙◌, refl, sym, ap, subst, ℕ, ◌==◌, ◌^◌, ◌-◌, Bool, true, false, ◌&&◌, cond, List}
use Rattle.std.proofs.Common.{[]}
use Rattle.std.proofs.Common.{◌∷◌, eq-eqb, arith}
use Rattle.std.specs.Prelude.{ℤ, pos, neg_ℤ, ◌+ℤ◌, ◌-ℤ◌, int_le, int_lt, Option, Some, None}
use Rattle.std.specs.Ordering.{ordering_reverse}
use Rattle.std.specs.declared.cmp.Ordering.{Ordering}
use Rattle.std.specs.declared.cmp.Ordering.TheVariants.{Less, Equal, Greater}
use Rattle.std.proofs.lemmas.Bool.{and_from, and_parts, eqb-true}
use Rattle.std.proofs.lemmas.Int.{ints}
use Rattle.tql_spec.specs.Words.{◌>>=◌}
use Rattle.tql_spec.specs.Truth.{Truth, False, Unknown, True, and, is_true, truth_of}
use Rattle.tql_spec.specs.Datum.{Comparison, Equals, Differs, Below, AtMost, Above, AtLeast, accepts, compare}
use Rattle.tql_spec.specs.Datum.{Datum, Null, Int, Text, Day, Moment, Row, order}
use Rattle.tql_spec.specs.Definition.{cell}
use Rattle.tql_spec.specs.Expression.{Expr, Literal, Column, Negate, Binary, CountRows, Aggregate, Cond, Compare}
use Rattle.tql_spec.specs.Expression.{IsNull, Related, ContainsPoint, Not, And, Or, both, judge}
use Rattle.tql_spec.proofs.Orders.{order-total}
use Rattle.tql_plan_laws.specs.Conjuncts.{is_sure, meets}
use Rattle.tql_plan_laws.specs.Constants.{is_column, literal_of}
use Rattle.tql_plan_laws.specs.Equalities.{or_else}
use Rattle.tql_store_index.specs.Basis.{is_between}
use Rattle.tql_plan_access.specs.Ranges.{admitted, compared, limit_in, limit_of, limiting, limits, pair_if}
use Rattle.tql_plan_access.specs.Ranges.{range_between, RangesAreFound, RangesAreMet, turned, with_value}

-- a comparison with a literal
abbrev Limit : Type 0
Limit = Comparison × Datum

-- ---- the sides of a comparison

accepts_back : (sign : Comparison) (r : Ordering) → accepts (turned sign) (ordering_reverse r) ≡ accepts sign r
accepts_back Equals Less = refl
accepts_back Equals Equal = refl
accepts_back Equals Greater = refl
accepts_back Differs Less = refl
accepts_back Differs Equal = refl
accepts_back Differs Greater = refl
accepts_back Below Less = refl
accepts_back Below Equal = refl
accepts_back Below Greater = refl
accepts_back AtMost Less = refl
accepts_back AtMost Equal = refl
accepts_back AtMost Greater = refl
accepts_back Above Less = refl
accepts_back Above Equal = refl
accepts_back Above Greater = refl
accepts_back AtLeast Less = refl
accepts_back AtLeast Equal = refl
accepts_back AtLeast Greater = refl

-- values that are not null compare as they are ordered
known : (sign : Comparison) (a b : Datum) → compare (turned sign) b a ≡ truth_of (accepts (turned sign) (order b a))
    → compare sign a b ≡ truth_of (accepts sign (order a b)) → compare (turned sign) b a ≡ compare sign a b
known sign a b e f =
    e ∙ ap (λ r. truth_of (accepts (turned sign) r)) (order-total.antisymm b a)
    ∙ ap truth_of (accepts_back sign (order a b)) ∙ sym f

-- a comparison says the same with its sides exchanged
turned_says : (sign : Comparison) (a b : Datum) → compare (turned sign) b a ≡ compare sign a b
turned_says sign Null Null = refl
turned_says sign Null (Int b) = refl
turned_says sign Null (Text b) = refl
turned_says sign Null (Day b) = refl
turned_says sign Null (Moment b) = refl
turned_says sign (Int a) Null = refl
turned_says sign (Int a) (Int b) = known sign (Int a) (Int b) refl refl
turned_says sign (Int a) (Text b) = known sign (Int a) (Text b) refl refl
turned_says sign (Int a) (Day b) = known sign (Int a) (Day b) refl refl
turned_says sign (Int a) (Moment b) = known sign (Int a) (Moment b) refl refl
turned_says sign (Text a) Null = refl
turned_says sign (Text a) (Int b) = known sign (Text a) (Int b) refl refl
turned_says sign (Text a) (Text b) = known sign (Text a) (Text b) refl refl
turned_says sign (Text a) (Day b) = known sign (Text a) (Day b) refl refl
turned_says sign (Text a) (Moment b) = known sign (Text a) (Moment b) refl refl
turned_says sign (Day a) Null = refl
turned_says sign (Day a) (Int b) = known sign (Day a) (Int b) refl refl
turned_says sign (Day a) (Text b) = known sign (Day a) (Text b) refl refl
turned_says sign (Day a) (Day b) = known sign (Day a) (Day b) refl refl
turned_says sign (Day a) (Moment b) = known sign (Day a) (Moment b) refl refl
turned_says sign (Moment a) Null = refl
turned_says sign (Moment a) (Int b) = known sign (Moment a) (Int b) refl refl
turned_says sign (Moment a) (Text b) = known sign (Moment a) (Text b) refl refl
turned_says sign (Moment a) (Day b) = known sign (Moment a) (Day b) refl refl
turned_says sign (Moment a) (Moment b) = known sign (Moment a) (Moment b) refl refl

-- ---- the form of an expression

column_there : (i : ℕ) (e : Expr) → is_column i e ≡ true → e ≡ Column i
column_there i (Column j) h = ap Column (sym (eqb-true i j h))
column_there i (Literal v) h = absurd (cc)
column_there i (Negate e) h = absurd (cc)
column_there i (Binary op a b) h = absurd (cc)
column_there i CountRows h = absurd (cc)
column_there i (Aggregate f e) h = absurd (cc)

literal_there : (e : Expr) (v : Datum) → literal_of e ≡ Some v → e ≡ Literal v
literal_there (Literal w) v h = let k : w ≡ v = cc in ap Literal k
literal_there (Column j) v h = absurd (cc)
literal_there (Negate e) v h = absurd (cc)
literal_there (Binary op a b) v h = absurd (cc)
literal_there CountRows v h = absurd (cc)
literal_there (Aggregate f e) v h = absurd (cc)

-- the parts of a comparison with a literal
with_parts : (sign : Comparison) (o : Option Datum) (b : Limit) → with_value sign o ≡ Some b
    → (o ≡ Some b.1) × (sign ≡ b.0)
with_parts sign None b e = absurd (cc)
with_parts sign (Some v) b e =
    let k : (sign, v) ≡ b = cc in (ap (λ (q : Limit). Some q.1) k, ap (λ (q : Limit). q.0) k)

-- a limit from one side is the comparison itself
limit_is : (is_low : Bool) (o : Option Limit) (b : Limit) → limiting is_low o ≡ Some b
    → (o ≡ Some b) × (limits is_low b.0 ≡ true)
limit_is is_low None b e = absurd (cc)
limit_is is_low (Some d) b e = by_side (limits is_low d.0) refl e
  where
    by_side : (t : Bool) → limits is_low d.0 ≡ t → cond t (Some d) None ≡ Some b
        → (Some d ≡ Some b) × (limits is_low b.0 ≡ true)
    by_side false k f = absurd (cc)
    by_side true k f =
        let same : d ≡ b = cc in (f, subst (λ (q : Limit). limits is_low q.0 ≡ true) same k)

-- both parts of a sure AND are sure
both_sure : (o p : Option Truth) → is_sure (both and o p) ≡ true → (is_sure o ≡ true) × (is_sure p ≡ true)
both_sure None p h = absurd (cc)
both_sure (Some a) None h = absurd (cc)
both_sure (Some False) (Some b) h = absurd (cc)
both_sure (Some Unknown) (Some False) h = absurd (cc)
both_sure (Some Unknown) (Some Unknown) h = absurd (cc)
both_sure (Some Unknown) (Some True) h = absurd (cc)
both_sure (Some True) (Some b) h = (refl, h)

-- one of two options is the result
by_either : {P : Type 0} (o p : Option Limit) (b : Limit) → or_else o p ≡ Some b → (o ≡ Some b → P)
    → (p ≡ Some b → P) → P
by_either None p b e f g = g e
by_either (Some d) p b e f g = f e

-- ---- limits that a row meets

module _ (row : Row) (i : ℕ) where
  -- the row's column is within the limit
  abbrev IsWithin : Limit → Type 0
  IsWithin b = is_true (compare b.0 (cell row i) b.1) ≡ true

  near : (sign : Comparison) (x y : Expr) → is_sure (judge [] row (Compare sign x y)) ≡ true → is_column i x ≡ true
      → (b : Limit) → with_value sign (literal_of y) ≡ Some b → IsWithin b
  near sign x y h k b e =
      let p = with_parts sign (literal_of y) b e in
      ap (λ s. is_true (compare s (cell row i) b.1)) (sym p.1)
      ∙ sym (λ j. is_sure (judge [] row (Compare sign (column_there i x k j) (literal_there y b.1 p.0 j)))) ∙ h

  far : (sign : Comparison) (x y : Expr) → is_sure (judge [] row (Compare sign x y)) ≡ true → is_column i y ≡ true
      → (b : Limit) → with_value (turned sign) (literal_of x) ≡ Some b → IsWithin b
  far sign x y h k b e =
      let p = with_parts (turned sign) (literal_of x) b e in
      ap (λ s. is_true (compare s (cell row i) b.1)) (sym p.1)
      ∙ ap is_true (turned_says sign b.1 (cell row i))
      ∙ sym (λ j. is_sure (judge [] row (Compare sign (literal_there x b.1 p.0 j) (column_there i y k j)))) ∙ h

  compared_met : (c : Cond) (b : Limit) → is_sure (judge [] row c) ≡ true → compared i c ≡ Some b → IsWithin b
  compared_met (Compare sign x y) b h e = by_side (is_column i x) refl (is_column i y) refl e
    where
      by_side : (p : Bool) → is_column i x ≡ p → (q : Bool) → is_column i y ≡ q
          → cond p (with_value sign (literal_of y)) (cond q (with_value (turned sign) (literal_of x)) None) ≡ Some b
          → IsWithin b
      by_side true k q l f = near sign x y h k b f
      by_side false k true l f = far sign x y h l b f
      by_side false k false l f = absurd (cc)
  compared_met (IsNull x) b h e = absurd (cc)
  compared_met (Related w x y l r) b h e = absurd (cc)
  compared_met (ContainsPoint x y p) b h e = absurd (cc)
  compared_met (Not c) b h e = absurd (cc)
  compared_met (And c d) b h e = absurd (cc)
  compared_met (Or c d) b h e = absurd (cc)

  module _ (is_low : Bool) where
    -- the row's column is within a limit from this side
    abbrev IsLimited : Limit → Type 0
    IsLimited b = IsWithin b × (limits is_low b.0 ≡ true)

    one_met : (c : Cond) (b : Limit) → is_sure (judge [] row c) ≡ true → limiting is_low (compared i c) ≡ Some b
        → IsLimited b
    one_met c b h e = let p = limit_is is_low (compared i c) b e in (compared_met c b h p.0, p.1)

    limit_met : (c : Cond) (b : Limit) → is_sure (judge [] row c) ≡ true → limit_of is_low i c ≡ Some b → IsLimited b
    limit_met (And c d) b h e =
        let p = both_sure (judge [] row c) (judge [] row d) h in
        by_either (limiting is_low (compared i c)) (limiting is_low (compared i d)) b e (one_met c b p.0)
        (one_met d b p.1)
    limit_met (Compare sign x y) b h e = one_met (Compare sign x y) b h e
    limit_met (IsNull x) b h e = one_met (IsNull x) b h e
    limit_met (Related w x y l r) b h e = one_met (Related w x y l r) b h e
    limit_met (ContainsPoint x y p) b h e = one_met (ContainsPoint x y p) b h e
    limit_met (Not c) b h e = one_met (Not c) b h e
    limit_met (Or c d) b h e = one_met (Or c d) b h e

    first_met : (conds : List Cond) (b : Limit) → meets conds row ≡ true → limit_in is_low i conds ≡ Some b
        → IsLimited b
    first_met [] b h e = absurd (cc)
    first_met (c ∷ cs) b h e =
        let p = and_parts (is_sure (judge [] row c)) (meets cs row) h in
        by_either (limit_of is_low i c) (limit_in is_low i cs) b e (limit_met c b p.0) (first_met cs b p.1)

-- ---- numbers within limits

truth_is : (b : Bool) → is_true (truth_of b) ≡ true → b ≡ true
truth_is true h = refl
truth_is false h = absurd (cc)

-- the order of two numbers, by the tests whether each is below the other
abbrev order_by : Bool → Bool → Ordering
order_by p q = cond p Less (cond q Greater Equal)

module _ (n a z : ℤ) where
  -- a number above a limit is not below the first number that the limit admits
  low_by : (sign : Comparison) (p q : Bool) → int_lt n a ≡ p → int_lt a n ≡ q → limits true sign ≡ true
      → accepts sign (order_by p q) ≡ true → admitted sign a ≡ Some z → int_le z n ≡ true
  low_by Equals p q k l h f e = absurd (cc)
  low_by Differs p q k l h f e = absurd (cc)
  low_by Below p q k l h f e = absurd (cc)
  low_by AtMost p q k l h f e = absurd (cc)
  low_by AtLeast true q k l h f e = absurd (cc)
  low_by AtLeast false q k l h f e = let same : a ≡ z = cc in grind (arith, ints, k, same)
  low_by Above true q k l h f e = absurd (cc)
  low_by Above false false k l h f e = absurd (cc)
  low_by Above false true k l h f e = by_room (int_lt a (pos (2 ^ 63 - 1))) e
    where
      by_room : (b : Bool) → cond b (Some (a +ℤ pos 1)) None ≡ Some z → int_le z n ≡ true
      by_room true g = let same : a +ℤ pos 1 ≡ z = cc in grind (arith, ints, l, same)
      by_room false g = absurd (cc)

  -- a number below a limit is not above the last number that the limit admits
  high_by : (sign : Comparison) (p q : Bool) → int_lt n a ≡ p → int_lt a n ≡ q → limits false sign ≡ true
      → accepts sign (order_by p q) ≡ true → admitted sign a ≡ Some z → int_le n z ≡ true
  high_by Equals p q k l h f e = absurd (cc)
  high_by Differs p q k l h f e = absurd (cc)
  high_by Above p q k l h f e = absurd (cc)
  high_by AtLeast p q k l h f e = absurd (cc)
  high_by AtMost true q k l h f e = let same : a ≡ z = cc in grind (arith, ints, k, same)
  high_by AtMost false true k l h f e = absurd (cc)
  high_by AtMost false false k l h f e = let same : a ≡ z = cc in grind (arith, ints, l, same)
  high_by Below false true k l h f e = absurd (cc)
  high_by Below false false k l h f e = absurd (cc)
  high_by Below true q k l h f e = by_room (int_lt (neg_ℤ (pos (2 ^ 63))) a) e
    where
      by_room : (b : Bool) → cond b (Some (a -ℤ pos 1)) None ≡ Some z → int_le n z ≡ true
      by_room true g = let same : a -ℤ pos 1 ≡ z = cc in grind (arith, ints, k, same)
      by_room false g = absurd (cc)

-- the parts of a pair
pair_parts : (o p : Option ℤ) (low high : ℤ) → pair_if o p ≡ Some (low, high) → (o ≡ Some low) × (p ≡ Some high)
pair_parts None p low high e = absurd (cc)
pair_parts (Some a) None low high e = absurd (cc)
pair_parts (Some a) (Some b) low high e =
    let k : (a, b) ≡ (low, high) = cc in (ap (λ (q : ℤ × ℤ). Some q.0) k, ap (λ (q : ℤ × ℤ). Some q.1) k)

-- no value of a kind before that of a limit from below is within the limit, nor one of a kind after that of a limit
-- from above
not_before : (sign : Comparison) → limits true sign ≡ true → is_true (truth_of (accepts sign Less)) ≡ true → ⊥
not_before Equals h k = absurd (cc)
not_before Differs h k = absurd (cc)
not_before Below h k = absurd (cc)
not_before AtMost h k = absurd (cc)
not_before Above h k = absurd (cc)
not_before AtLeast h k = absurd (cc)

not_after : (sign : Comparison) → limits false sign ≡ true → is_true (truth_of (accepts sign Greater)) ≡ true → ⊥
not_after Equals h k = absurd (cc)
not_after Differs h k = absurd (cc)
not_after Below h k = absurd (cc)
not_after AtMost h k = absurd (cc)
not_after Above h k = absurd (cc)
not_after AtLeast h k = absurd (cc)

module _ (s t : Comparison) (from : limits true s ≡ true) (to : limits false t ≡ true) (low high : ℤ) where
  -- a number between two limits
  inside : (a b n : ℤ) → is_true (truth_of (accepts s (order_by (int_lt n a) (int_lt a n)))) ≡ true
      → is_true (truth_of (accepts t (order_by (int_lt n b) (int_lt b n)))) ≡ true
      → pair_if (admitted s a) (admitted t b) ≡ Some (low, high) → int_le low n && int_le n high ≡ true
  inside a b n h k e =
      let p = pair_parts (admitted s a) (admitted t b) low high e in
      and_from (int_le low n) (int_le n high)
      (low_by n a low s (int_lt n a) (int_lt a n) refl refl from
      (truth_is (accepts s (order_by (int_lt n a) (int_lt a n))) h) p.0)
      (high_by n b high t (int_lt n b) (int_lt b n) refl refl to
      (truth_is (accepts t (order_by (int_lt n b) (int_lt b n))) k) p.1)

  -- a value between limits of one kind
  between_numbers : (x : Datum) (a b : ℤ) → is_true (compare s x (Int a)) ≡ true → is_true (compare t x (Int b)) ≡ true
      → pair_if (admitted s a) (admitted t b) ≡ Some (low, high) → is_between low high x ≡ true
  between_numbers Null a b h k e = absurd (cc)
  between_numbers (Int n) a b h k e = inside a b n h k e
  between_numbers (Text n) a b h k e = absurd (not_after t to k)
  between_numbers (Day n) a b h k e = absurd (not_after t to k)
  between_numbers (Moment n) a b h k e = absurd (not_after t to k)

  between_days : (x : Datum) (a b : ℤ) → is_true (compare s x (Day a)) ≡ true → is_true (compare t x (Day b)) ≡ true
      → pair_if (admitted s a) (admitted t b) ≡ Some (low, high) → is_between low high x ≡ true
  between_days Null a b h k e = absurd (cc)
  between_days (Int n) a b h k e = absurd (not_before s from h)
  between_days (Text n) a b h k e = absurd (not_before s from h)
  between_days (Day n) a b h k e = inside a b n h k e
  between_days (Moment n) a b h k e = absurd (not_after t to k)

  between_moments : (x : Datum) (a b : ℤ) → is_true (compare s x (Moment a)) ≡ true
      → is_true (compare t x (Moment b)) ≡ true → pair_if (admitted s a) (admitted t b) ≡ Some (low, high)
      → is_between low high x ≡ true
  between_moments Null a b h k e = absurd (cc)
  between_moments (Int n) a b h k e = absurd (not_before s from h)
  between_moments (Text n) a b h k e = absurd (not_before s from h)
  between_moments (Day n) a b h k e = absurd (not_before s from h)
  between_moments (Moment n) a b h k e = inside a b n h k e

  -- a value between limits
  between_met : (x v w : Datum) → is_true (compare s x v) ≡ true → is_true (compare t x w) ≡ true
      → range_between (s, v) (t, w) ≡ Some (low, high) → is_between low high x ≡ true
  between_met x (Int a) (Int b) h k e = between_numbers x a b h k e
  between_met x (Day a) (Day b) h k e = between_days x a b h k e
  between_met x (Moment a) (Moment b) h k e = between_moments x a b h k e
  between_met x v w h k e = absurd (cc)

-- ---- ranges

pub ranges_met : RangesAreMet
ranges_met conds row m i low high e =
    by_limits (limit_in true i conds) refl (limit_in false i conds) refl e
  where
    by_limits : (o : Option Limit) → limit_in true i conds ≡ o → (p : Option Limit) → limit_in false i conds ≡ p
        → (o >>= λ l. p >>= λ h. range_between l h) ≡ Some (low, high) → is_between low high (cell row i) ≡ true
    by_limits None k p l f = absurd (cc)
    by_limits (Some b) k None l f = absurd (cc)
    by_limits (Some b) k (Some c) l f =
        let from = first_met row i true conds b m k in
        let to = first_met row i false conds c m l in
        between_met b.0 c.0 from.1 to.1 low high (cell row i) b.1 c.1 from.0 to.0 f

itself : (i : ℕ) → (i == i) ≡ true
itself i = eq-eqb i i refl

pub ranges_found : RangesAreFound
ranges_found = record {
  numbers = λ i low high. rw (itself i) refl;
  days = λ i low high. rw (itself i) refl;
  moments = λ i low high. rw (itself i) refl;
  strict = λ i low high h k. rw (itself i, h, k) refl;
}
