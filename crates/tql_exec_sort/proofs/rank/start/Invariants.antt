use Rattle.std.proofs.Common.{◌≡◌, ◌+◌, ◌-◌, ◌*◌, ◌^◌, ◌<◌, drop}
use Rattle.tql_exec_sort.specs.Rank.{start_of}
use Rattle.tql_exec_sort.proofs.rank.start.Given as goal

-- invariant: the number so far, shifted by the bytes left, plus the number of those is the whole number
abbrev pub invariant-loop-place : goal.invariant-loop-place
invariant-loop-place l =
    (l.number < 256 ^ l.place)
    × (l.number * 256 ^ (8 - l.place) + start_of (8 - l.place) (drop l.place l.text) ≡ start_of 8 l.text)
