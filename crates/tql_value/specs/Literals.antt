-- The parts of a TIMESTAMP literal.
use Rattle.std.specs.Prelude.{ℕ, ◌&&◌, List, drop, Option, Some}
use Rattle.tql_spec.specs.Calendar.{digits_at, has_byte_at, where_true, read_fraction, micros_of_time}
use Rattle.tql_spec.specs.Words.{◌>>=◌}

-- the microseconds of a blank at position 10, HH:MM:SS and a fraction
abbrev pub time_read : List ℕ → Option ℕ
time_read bs = do
  h ← digits_at bs 11 2
  m ← digits_at bs 14 2
  s ← digits_at bs 17 2
  f ← read_fraction (drop 19 bs)
  micros ← micros_of_time h m s f
  where_true (has_byte_at bs 10 32 && has_byte_at bs 13 58 && has_byte_at bs 16 58) (Some micros)
