use Rattle.std.proofs.Common.{◌≡◌, take}
use Rattle.tql_index.specs.Slots.{entries_in}
use Rattle.tql_index.proofs.slots.Slots.with_spans.Given as goal

-- the entries so far
abbrev pub invariant-loop-place : goal.invariant-loop-place
invariant-loop-place g l = entries_in l.spans.items ≡ take l.place l.self
