use Rattle.std.proofs.Common.{◌≡◌, map}
use Rattle.tql_catalog.specs.Referring.{moved_down}
use Rattle.tql_catalog.proofs.Rests.{rest}
use Rattle.tql_catalog.proofs.referring.move_down.Given as goal

abbrev pub invariant-loop-place : goal.invariant-loop-place
invariant-loop-place l = rest (moved_down l.gone) l.place-index l.places ≡ map (moved_down l.gone) l.fn.places
