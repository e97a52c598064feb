use Rattle.std.proofs.Common.{◌≡◌, ℕ, ◌≤◌, None, drop, length, slice_index_or}
use Rattle.tql_exec_group.specs.Places.{place_from}
use Rattle.tql_exec_group.proofs.places.places_of.Given as goal

-- invariant: the table is that of the columns from an index on
abbrev pub invariant-loop-place : goal.invariant-loop-place
invariant-loop-place l = record {
  within : l.place ≤ length l.columns;
  placed : (c : ℕ) → slice_index_or l.places.items c None ≡ place_from l.place (drop l.place l.columns) c;
}

abbrev pub decreases-loop-place : goal.decreases-loop-place
decreases-loop-place l = l.place
