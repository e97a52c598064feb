-- The bytes of a string that need an escape.
use Rattle.std.specs.Prelude.{ℕ, Bool, ◌||◌, ◌==◌, nat_lt}

-- a quote, a backslash, or a control byte
abbrev pub has_escape : ℕ → Bool
has_escape b = (b == 34) || (b == 92) || nat_lt b 32
