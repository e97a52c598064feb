use Rattle.std.proofs.Common.{◌≡◌, take}
use Rattle.tql_numbers.proofs.numbers.widened.Given as goal

-- the numbers so far are copied
abbrev pub invariant-loop-number : goal.invariant-loop-number
invariant-loop-number l = l.wide.items ≡ take l.number-index l.narrow
