-- The values that commands take.
use Rattle.std.specs.Prelude.{ℕ, ◌+◌, ◌-◌, ◌*◌, Bool, true, false, ◌==◌, if◌then◌else◌, nat_le, nat_lt, List, [], ◌∷◌}
use Rattle.std.specs.Prelude.{Option, Some, None, codes}
use Rattle.std.specs.Str.{bytes_eq}
use Rattle.tql_spec.specs.Calendar.{is_digit}

-- what a switch is set to
abbrev pub switch_of : List ℕ → Option Bool
switch_of w = if bytes_eq w (codes "on") then Some true
    else (if bytes_eq w (codes "off") then Some false else None)

-- a number with a digit appended, if it is at most 10,000 then
abbrev pub at_most_widest : ℕ → Option ℕ
at_most_widest n = if nat_le n 10_000 then Some n else None

abbrev pub width_behind : ℕ → ℕ → Option ℕ
width_behind n b = if is_digit b then at_most_widest (n * 10 + (b - 48)) else None

-- the number that digits spell after a number, each beginning of it at most 10,000
abbrev pub widened : Option ℕ → List ℕ → Option ℕ
widened None bs = None
widened (Some n) [] = Some n
widened (Some n) (b ∷ bs) = widened (width_behind n b) bs

-- a width of 20 or more
abbrev pub wide_enough : Option ℕ → Option ℕ
wide_enough None = None
wide_enough (Some n) = if nat_lt n 20 then None else Some n

-- the width that a word tells: a number from 20 to 10,000
abbrev pub width_told : List ℕ → Option ℕ
width_told w = wide_enough (widened (Some 0) w)
