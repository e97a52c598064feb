-- The points of many groups on one line.
use Rattle.std.specs.Prelude.{ℤ, ◌^◌, ◌-◌, pos, neg_ℤ}
use Rattle.tql_spec.specs.Period.{Period}
use Rattle.tql_period.specs.Points.{points_of}
use Rattle.tql_index.specs.Line.{place_of, placed}
use Rattle.tql_index.specs.declared.line.Place as line
use Rattle.tql_index.specs.declared.span.Span as code

-- the points of a period in a group
abbrev pub in_group : ℤ → Period → Period
in_group group x = record { start = placed group x.start; end = placed group x.end }

-- the points of a span
abbrev pub span_of : code.Span → Period
span_of x = in_group x.group (points_of x.period)

-- all points of a group below the highest number of 64 bits
abbrev pub all_of_group : ℤ → Period
all_of_group group = in_group group (record { start = neg_ℤ (pos (2 ^ 63)); end = pos (2 ^ 63 - 1) })

-- the points from one place of the code up to another
abbrev pub points_between : line.Place → line.Place → Period
points_between from to = record { start = place_of from; end = place_of to }

-- the points of all groups from the first to the second
abbrev pub groups_between : ℤ → ℤ → Period
groups_between low high = record { start = placed low (neg_ℤ (pos (2 ^ 63))); end = placed high (pos (2 ^ 63 - 1)) }
