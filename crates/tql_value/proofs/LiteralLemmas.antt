-- The value of a literal from its parts.
use Rattle.std.proofs.Common.{◌≡◌, ℕ, true, ◌&&◌, List, drop, Some, refl}
use Rattle.tql_spec.specs.Calendar.{digits_at, has_byte_at, read_fraction, micros_of_time}
use Rattle.tql_value.specs.Literals.{time_read}

-- a time all of whose parts are read
pub time_read-is : (bs : List ℕ) (h m s f micros : ℕ) → Some h ≡ digits_at bs 11 2 → Some m ≡ digits_at bs 14 2
    → Some s ≡ digits_at bs 17 2 → Some f ≡ read_fraction (drop 19 bs) → Some micros ≡ micros_of_time h m s f
    → true ≡ (has_byte_at bs 10 32 && has_byte_at bs 13 58 && has_byte_at bs 16 58) → Some micros ≡ time_read bs
time_read-is bs h m s f micros hour minute second fraction time signs =
    rw (← hour, ← minute, ← second, ← fraction, ← time, ← signs) refl
