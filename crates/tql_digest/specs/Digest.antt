-- The digest of values: a hash of 64 bits by which rows are found, joined and grouped.
use Rattle.std.specs.Prelude.{ℕ, List, [], ◌∷◌, if◌then◌else◌}
use Rattle.std.specs.Hash.{HashWrites, u8, i64, str}
use Rattle.std.specs.Hash.DefaultHasher.{initial, write, finish}
use Rattle.std.specs.Int.{cast_unsigned, w64}
use Rattle.std.specs.List.{fold}
use Rattle.std.specs.declared.hash.DefaultHasher.{DefaultHasher}
use Rattle.tql_spec.specs.Datum.{Datum, Null, Int, Text, Day, Moment}
use Rattle.tql_spec.specs.Words.{is_empty}

-- what is written of a value: a text is followed by a byte that no text has
abbrev pub written : Datum → HashWrites
written Null = u8 0
written (Int n) = i64 n
written (Text t) = str t
written (Day d) = i64 d
written (Moment m) = i64 m

-- a hash with one more value
abbrev pub absorbed : DefaultHasher → Datum → DefaultHasher
absorbed h d = fold write h (written d)

-- SipHash-1-3 of what is written of the values
abbrev pub hashed : List Datum → ℕ
hashed ds = finish (fold absorbed initial ds)

-- the digest of one value: a number, a day and a moment are their own, so no two of a kind have one digest
abbrev pub alone : Datum → ℕ
alone Null = hashed (Null ∷ [])
alone (Int n) = cast_unsigned w64 n
alone (Text t) = hashed (Text t ∷ [])
alone (Day d) = cast_unsigned w64 d
alone (Moment m) = cast_unsigned w64 m

-- the digest of values
unfoldable pub digest : List Datum → ℕ
digest [] = hashed []
digest (d ∷ ds) = if is_empty ds then alone d else hashed (d ∷ ds)
