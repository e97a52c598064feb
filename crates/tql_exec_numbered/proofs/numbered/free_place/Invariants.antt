use Rattle.std.proofs.Common.{◌≡◌, ◌-◌, length}
use Rattle.tql_exec_numbered.specs.Slots.{first_place, free_from}
use Rattle.tql_exec_numbered.proofs.numbered.free_place.Given as goal

-- invariant: the slots left have the first empty one
abbrev pub invariant-loop-step : goal.invariant-loop-step
invariant-loop-step l =
    free_from (32 - l._step) l.slots l.at ≡ free_from 32 l.slots (first_place (length l.slots) l.digest)
