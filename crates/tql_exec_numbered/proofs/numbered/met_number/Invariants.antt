use Rattle.std.proofs.Common.{◌≡◌, ℕ, ◌-◌, length}
use Rattle.std.specs.Prelude.{slice_get, Some}
use Rattle.tql_exec_numbered.specs.Numbered.{seen}
use Rattle.tql_exec_numbered.specs.Slots.{first_place, is_reached}
use Rattle.tql_exec_numbered.proofs.numbered.met_number.Given as goal

-- invariant: the row's number, if it has one, is reached exactly if it is from the slots left
abbrev pub invariant-loop-step : goal.invariant-loop-step
invariant-loop-step l = (n : ℕ) → slice_get l.rows n ≡ Some (seen l.row)
    → is_reached 32 l.slots (first_place (length l.slots) l.digest) n ≡ is_reached (32 - l._step) l.slots l.at n
