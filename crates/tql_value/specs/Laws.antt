-- Laws of the order of values.
use Rattle.std.specs.Prelude.{◌≡◌, ◌⊎◌, ◌↔◌, ℕ, Bool, IsTrue, List, Some}
use Rattle.std.specs.Cmp.Lexicographic.{slice_cmp}
use Rattle.std.specs.Ordering.{is_le, nat_cmp, ordering_reverse}
use Rattle.std.specs.declared.cmp.Ordering.TheVariants.{Equal}
use Rattle.std.specs.Str.{IsUtf8, chars}
use Rattle.tql_spec.specs.Datum.{Datum, Kind, Null, Text, kind_of, order, same}
use Rattle.tql_value.specs.Views.{kinds_meet}

-- whether a value is of this kind or null
abbrev pub is_of : Kind → Datum → Bool
is_of k d = kinds_meet (Some k) (kind_of d)

-- whether a value comes before another or is equal to it
abbrev pub at_most : Datum → Datum → Bool
at_most a b = is_le (order a b)

-- the values of a kind, and null, are totally ordered, null first, and only equal values compare as equal
pub record IsTotallyOrdered (k : Kind) : Type 0 where
  pub reflexive : (a : Datum) → IsTrue (is_of k a) → IsTrue (at_most a a)
  pub antisymmetric : (a b : Datum) → IsTrue (is_of k a) → IsTrue (is_of k b) → IsTrue (at_most a b)
      → IsTrue (at_most b a) → a ≡ b
  pub transitive : (a b c : Datum) → IsTrue (is_of k a) → IsTrue (is_of k b) → IsTrue (is_of k c)
      → IsTrue (at_most a b) → IsTrue (at_most b c) → IsTrue (at_most a c)
  pub total : (a b : Datum) → IsTrue (is_of k a) → IsTrue (is_of k b) → IsTrue (at_most a b) ⊎ IsTrue (at_most b a)
  pub level : (a b : Datum) → IsTrue (is_of k a) → IsTrue (is_of k b) → (order a b ≡ Equal) ↔ (a ≡ b)
  pub opposite : (a b : Datum) → IsTrue (is_of k a) → IsTrue (is_of k b) → order a b ≡ ordering_reverse (order b a)
  pub null_first : (a : Datum) → IsTrue (is_of k a) → IsTrue (at_most Null a)

-- each kind is totally ordered
abbrev pub KindsAreOrdered : Type 0
KindsAreOrdered = (k : Kind) → IsTotallyOrdered k

-- the order of the bytes of two texts is the order of their characters by code
abbrev pub TextsLieByCharacters : Type 0
TextsLieByCharacters = (a b : List ℕ) → IsUtf8 a → IsUtf8 b
    → order (Text a) (Text b) ≡ slice_cmp nat_cmp (chars a) (chars b)

-- the test of equality is true exactly for equal values, including null and null
abbrev pub SameIsEqual : Type 0
SameIsEqual = (a b : Datum) → IsTrue (same a b) ↔ (a ≡ b)
