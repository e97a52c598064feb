-- The span of a period in a group.
use Rattle.std.specs.Prelude.{Bool, ◌&&◌, ◌^◌, ◌-◌, if◌then◌else◌, Option, Some, None, pos, neg_ℤ, int_le, int_lt}
use Rattle.tql_spec.specs.Period.{Period}

-- all points of 64 bits but the highest
abbrev pub whole : Period
whole = record { start = neg_ℤ (pos (2 ^ 63)); end = pos (2 ^ 63 - 1) }

-- whether a period starts before it ends, with both ends in 64 bits
abbrev pub fits : Period → Bool
fits x = int_le (neg_ℤ (pos (2 ^ 63))) x.start && (int_lt x.start x.end && int_le x.end (pos (2 ^ 63 - 1)))

-- the period if it fits, else the whole, which each lookup in the group finds
abbrev pub fitting : Period → Period
fitting x = if fits x then x else whole

-- the same for an optional period; without one, the whole
abbrev pub fitting_if : Option Period → Period
fitting_if None = whole
fitting_if (Some x) = fitting x
