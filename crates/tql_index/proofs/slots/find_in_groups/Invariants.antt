use Rattle.tql_spec.specs.Period.{share_a_point}
use Rattle.tql_index.specs.Slots.{entry_of_group}
use Rattle.tql_index.specs.Spans.{points_between}
use Rattle.tql_index.proofs.Forms.{HasSearched}
use Rattle.tql_index.proofs.slots.find_in_groups.Given as goal

abbrev pub invariant-loop-slot : goal.invariant-loop-slot
invariant-loop-slot l =
    HasSearched entry_of_group (λ e. share_a_point e.period (points_between l.from l.to)) l.groups l.slot-index
    l.initial.found.items l.found.items
