use Rattle.std.proofs.Common.{◌≡◌, map, take}
use Rattle.tql_store_index.specs.Standing.{points_of_group, points_of_slot}
use Rattle.tql_store_index.proofs.slot_periods.slots_of_groups.Given as goal

-- the entries of the groups so far
abbrev pub invariant-loop-group : goal.invariant-loop-group
invariant-loop-group l = map points_of_slot l.spans.items ≡ map points_of_group (take l.group-index l.groups)
