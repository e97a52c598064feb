use Rattle.std.proofs.Common.{◌≡◌, ◌≤◌, ◌++◌, ◌∷◌, length, take, ◌+◌, ◌-◌}
use Rattle.tql_row.proofs.writing.put.Given as goal

-- the bytes so far are appended, and there is room for the others
abbrev pub invariant-loop-byte : goal.invariant-loop-byte
invariant-loop-byte l = (l.bytes.items ≡ l.fn.bytes.items ++ l.tag ∷ take l.byte-index l.rest)
    × (length l.bytes.items + (length l.rest - l.byte-index) ≤ l.bytes.capacity)
