-- The characters that a line shows.
use Rattle.std.specs.Prelude.{ℕ, Bool, ◌||◌, ◌&&◌, if◌then◌else◌, nat_le, nat_lt}

-- the control characters, by their numbers
abbrev pub is_control : ℕ → Bool
is_control c = nat_lt c 32 || (nat_le 127 c && nat_lt c 160)

-- a line shows `?` in place of a control character
abbrev pub shown_as : ℕ → ℕ
shown_as c = if is_control c then 63 else c
