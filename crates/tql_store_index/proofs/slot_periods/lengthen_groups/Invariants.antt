use Rattle.std.proofs.Common.{◌≡◌, ◌≤◌, ◌-◌, ℕ, get_or, length, map}
use Rattle.std.specs.Prelude.{None}
use Rattle.tql_store_index.specs.Standing.{points_of_group}
use Rattle.tql_store_index.proofs.slot_periods.lengthen_groups.Given as goal

-- only row slots without a period were added
abbrev pub invariant-loop-groups : goal.invariant-loop-groups
invariant-loop-groups l = record {
  kept : (s : ℕ) → get_or (map points_of_group l.groups.items) s None
      ≡ get_or (map points_of_group l.fn.groups.items) s None;
  longer : length l.fn.groups.items ≤ length l.groups.items;
}

abbrev pub decreases-loop-groups : goal.decreases-loop-groups
decreases-loop-groups l = l.slots - length l.groups.items
