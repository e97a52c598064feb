-- Values, their comparison, their order and their arithmetic.
use Rattle.std.specs.Prelude.{ℕ, ◌+◌, ◌^◌, Bool, true, false, ◌&&◌, List, [], ◌∷◌, ℤ, pos, ◌+ℤ◌, ◌-ℤ◌, ◌*ℤ◌, neg_ℤ}
use Rattle.std.specs.Prelude.{int_le, int_lt, Option, Some, None, if◌then◌else◌, nat_lt, nat_le}
use Rattle.std.specs.declared.cmp.Ordering.{Ordering}
use Rattle.std.specs.declared.cmp.Ordering.TheVariants.{Less, Equal, Greater}
use Rattle.std.specs.Ordering.{is_eq, is_ne, is_lt, is_le, is_gt, is_ge, nat_cmp, int_cmp}
use Rattle.std.specs.Cmp.Lexicographic.{slice_cmp}
use Rattle.tql_spec.specs.Truth.{Truth, Unknown, truth_of}

-- the kinds of values
pub data Kind : Type 0 where
  Ints : Kind
  Texts : Kind
  Days : Kind
  Moments : Kind

-- a value: a text is its UTF-8 bytes; days and microseconds are counted from 1970-01-01
pub data Datum : Type 0 where
  Null : Datum
  Int : ℤ → Datum
  Text : List ℕ → Datum
  Day : ℤ → Datum
  Moment : ℤ → Datum

-- a row: one value for each column
abbrev pub Row : Type 0
Row = List Datum

-- the kind of a value that is not null
abbrev pub kind_of : Datum → Option Kind
kind_of Null = None
kind_of (Int n) = Some Ints
kind_of (Text t) = Some Texts
kind_of (Day d) = Some Days
kind_of (Moment m) = Some Moments

-- whether two kinds are equal
abbrev pub same_kind : Kind → Kind → Bool
same_kind Ints Ints = true
same_kind Texts Texts = true
same_kind Days Days = true
same_kind Moments Moments = true
same_kind _ _ = false

-- the rank of a value's kind, null first
abbrev pub rank : Datum → ℕ
rank Null = 0
rank (Int n) = 1
rank (Text t) = 2
rank (Day d) = 3
rank (Moment m) = 4

-- the order of two values, null first; values of different kinds never occur together, and are ordered by kind
abbrev pub order : Datum → Datum → Ordering
order Null Null = Equal
order Null b = Less
order (Int a) (Int b) = int_cmp a b
order (Int a) Null = Greater
order (Text a) (Text b) = slice_cmp nat_cmp a b
order (Text a) Null = Greater
order (Day a) (Day b) = int_cmp a b
order (Day a) Null = Greater
order (Moment a) (Moment b) = int_cmp a b
order (Moment a) Null = Greater
order a b = nat_cmp (rank a) (rank b)

-- whether two values are equal; null equals null
abbrev pub same : Datum → Datum → Bool
same Null Null = true
same (Int a) (Int b) = is_eq (int_cmp a b)
same (Text a) (Text b) = is_eq (slice_cmp nat_cmp a b)
same (Day a) (Day b) = is_eq (int_cmp a b)
same (Moment a) (Moment b) = is_eq (int_cmp a b)
same _ _ = false

-- whether two rows are equal; null equals null
abbrev pub same_row : Row → Row → Bool
same_row [] [] = true
same_row (a ∷ as') (b ∷ bs) = same a b && same_row as' bs
same_row _ _ = false

-- the comparison operators
pub data Comparison : Type 0 where
  Equals : Comparison
  Differs : Comparison
  Below : Comparison
  AtMost : Comparison
  Above : Comparison
  AtLeast : Comparison

-- whether a comparison is true for an outcome of the order
abbrev pub accepts : Comparison → Ordering → Bool
accepts Equals = is_eq
accepts Differs = is_ne
accepts Below = is_lt
accepts AtMost = is_le
accepts Above = is_gt
accepts AtLeast = is_ge

-- a comparison in three-valued logic: unknown if either value is null
abbrev pub compare : Comparison → Datum → Datum → Truth
compare sign Null b = Unknown
compare sign (Int a) Null = Unknown
compare sign (Text a) Null = Unknown
compare sign (Day a) Null = Unknown
compare sign (Moment a) Null = Unknown
compare sign a b = truth_of (accepts sign (order a b))

-- whether a value is null
abbrev pub is_null : Datum → Bool
is_null Null = true
is_null _ = false

-- whether an integer fits in 64 bits, signed
abbrev pub fits : ℤ → Bool
fits n = int_le (neg_ℤ (pos (2 ^ 63))) n && int_lt n (pos (2 ^ 63))

-- the integer as a value; None outside 64 bits
abbrev pub exact : ℤ → Option Datum
exact n = if fits n then Some (Int n) else None

-- the arithmetic operators
pub data Operation : Type 0 where
  Plus : Operation
  Minus : Operation
  Times : Operation

-- the exact result of an operator
abbrev pub result_of : Operation → ℤ → ℤ → ℤ
result_of Plus a b = a +ℤ b
result_of Minus a b = a -ℤ b
result_of Times a b = a *ℤ b

-- arithmetic: null if an operand is null, None if the exact result is outside 64 bits
abbrev pub calculate : Operation → Datum → Datum → Option Datum
calculate op (Int a) (Int b) = exact (result_of op a b)
calculate op _ _ = Some Null

-- the number of characters of a text: its bytes that are not UTF-8 continuation bytes
abbrev pub characters : List ℕ → ℕ
characters [] = 0
characters (b ∷ bs) = (if nat_le 128 b && nat_lt b 192 then 0 else 1) + characters bs
