use Rattle.std.proofs.Common.{◌≡◌, ◌++◌, drop, flat_map}
use Rattle.tql_store_rows.specs.Picked.{picked, stands_at}
use Rattle.tql_store_rows.proofs.finding.push_reached.Given as goal

-- the positions so far, with those added by the remaining past rows, are all
abbrev pub invariant-loop-place : goal.invariant-loop-place
invariant-loop-place g l =
    l.places.items ++ flat_map (picked l.closed l.ended (stands_at l.seats l.indexes)) (drop l.place-index l.past)
    ≡ l.initial.places.items ++ flat_map (picked l.closed l.ended (stands_at l.seats l.indexes)) l.past
