-- A comparison with its sides exchanged.
use Rattle.std.proofs.Common.{◌≡◌, ◌∙◌, refl, sym, ap, Bool, true, false}
use Rattle.std.specs.declared.cmp.Ordering.{Ordering}
use Rattle.std.specs.declared.cmp.Ordering.TheVariants.{Less, Equal, Greater}
use Rattle.std.specs.Ordering.{ordering_reverse}
use Rattle.tql_spec.specs.Datum.{Datum, Null, Int, Text, Day, Moment, Comparison, Equals, Differs, Below, AtMost, Above}
use Rattle.tql_spec.specs.Datum.{AtLeast, accepts, compare, is_null, order}
use Rattle.tql_spec.specs.Truth.{Unknown, is_true, truth_of}
use Rattle.tql_spec.proofs.Orders.{order-total}
use Rattle.tql_plan_screen.specs.Screens.{turned}

pub truth_is : (b : Bool) → is_true (truth_of b) ≡ b
truth_is true = refl
truth_is false = refl

-- a comparison of two values that are not null is decided by their order
known : (s : Comparison) (a b : Datum) → is_null a ≡ false → is_null b ≡ false
    → compare s a b ≡ truth_of (accepts s (order a b))
known s Null b h k = absurd (cc)
known s (Int a) Null h k = absurd (cc)
known s (Int a) (Int b) h k = refl
known s (Int a) (Text b) h k = refl
known s (Int a) (Day b) h k = refl
known s (Int a) (Moment b) h k = refl
known s (Text a) Null h k = absurd (cc)
known s (Text a) (Int b) h k = refl
known s (Text a) (Text b) h k = refl
known s (Text a) (Day b) h k = refl
known s (Text a) (Moment b) h k = refl
known s (Day a) Null h k = absurd (cc)
known s (Day a) (Int b) h k = refl
known s (Day a) (Text b) h k = refl
known s (Day a) (Day b) h k = refl
known s (Day a) (Moment b) h k = refl
known s (Moment a) Null h k = absurd (cc)
known s (Moment a) (Int b) h k = refl
known s (Moment a) (Text b) h k = refl
known s (Moment a) (Day b) h k = refl
known s (Moment a) (Moment b) h k = refl

-- a comparison with null is not decided
pub unknown : (s : Comparison) (a : Datum) → compare s a Null ≡ Unknown
unknown s Null = refl
unknown s (Int a) = refl
unknown s (Text a) = refl
unknown s (Day a) = refl
unknown s (Moment a) = refl

signs : (s : Comparison) (o : Ordering) → accepts (turned s) (ordering_reverse o) ≡ accepts s o
signs Equals Less = refl
signs Equals Equal = refl
signs Equals Greater = refl
signs Differs Less = refl
signs Differs Equal = refl
signs Differs Greater = refl
signs Below Less = refl
signs Below Equal = refl
signs Below Greater = refl
signs AtMost Less = refl
signs AtMost Equal = refl
signs AtMost Greater = refl
signs Above Less = refl
signs Above Equal = refl
signs Above Greater = refl
signs AtLeast Less = refl
signs AtLeast Equal = refl
signs AtLeast Greater = refl

both_known : (s : Comparison) (a b : Datum) → is_null a ≡ false → is_null b ≡ false
    → is_true (compare (turned s) a b) ≡ is_true (compare s b a)
both_known s a b h k =
    ap is_true (known (turned s) a b h k)
    ∙ ap (λ o. is_true (truth_of (accepts (turned s) o))) (order-total.antisymm a b)
    ∙ ap (λ t. is_true (truth_of t)) (signs s (order b a))
    ∙ ap is_true (sym (known s b a k h))

one_known : (s : Comparison) (a b : Datum) → is_null a ≡ false
    → is_true (compare (turned s) a b) ≡ is_true (compare s b a)
one_known s a Null h = ap is_true (unknown (turned s) a)
one_known s a (Int b) h = both_known s a (Int b) h refl
one_known s a (Text b) h = both_known s a (Text b) h refl
one_known s a (Day b) h = both_known s a (Day b) h refl
one_known s a (Moment b) h = both_known s a (Moment b) h refl

-- the sign is exchanged with the sides
pub turned_same : (s : Comparison) (a b : Datum) → is_true (compare (turned s) a b) ≡ is_true (compare s b a)
turned_same s Null b = sym (ap is_true (unknown s b))
turned_same s (Int a) b = one_known s (Int a) b refl
turned_same s (Text a) b = one_known s (Text a) b refl
turned_same s (Day a) b = one_known s (Day a) b refl
turned_same s (Moment a) b = one_known s (Moment a) b refl
