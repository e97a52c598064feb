-- The points of many groups on one line.
use Rattle.std.specs.Prelude.{ℤ, ◌^◌, ◌+ℤ◌, ◌*ℤ◌, pos, neg_ℤ}
use Rattle.tql_index.specs.declared.line.Place as code

-- the place of a point of a group on the line; a point of group 0 is its own number
abbrev pub placed : ℤ → ℤ → ℤ
placed group point = group *ℤ pos (2 ^ 64) +ℤ point

-- the number of a place of the code
abbrev pub place_of : code.Place → ℤ
place_of x = placed x.group x.point

-- the place of the least point of the least group
abbrev pub first_place : ℤ
first_place = placed (neg_ℤ (pos (2 ^ 63))) (neg_ℤ (pos (2 ^ 63)))
