use Rattle.std.proofs.Common.{◌≡◌, ℕ, ◌+◌, ◌-◌, None, length, slice_index_or}
use Rattle.tql_exec_group.proofs.places.set_place.Given as goal

-- invariant: no index is changed
abbrev pub invariant-loop-places : goal.invariant-loop-places
invariant-loop-places l = (c : ℕ) → slice_index_or l.places.items c None ≡ slice_index_or l.fn.places.items c None

abbrev pub decreases-loop-places : goal.decreases-loop-places
decreases-loop-places l = l.column + 1 - length l.places.items
