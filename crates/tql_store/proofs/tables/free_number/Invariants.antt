use Rattle.std.proofs.Common.{◌≡◌, ℕ, ◌<◌, true}
use Rattle.tql_store.specs.TableSlots.{slot_at, is_taken}
use Rattle.tql_store.proofs.tables.free_number.Given as goal

-- each number so far is in use
abbrev pub invariant-loop-number : goal.invariant-loop-number
invariant-loop-number l = (k : ℕ) → k < l.number → is_taken (slot_at l.places k) ≡ true
