use Rattle.std.proofs.Common.{◌∙◌, sym, arith}
use Rattle.tql_catalog.specs.Referring.{moved_down}
use Rattle.tql_catalog.proofs.Rests.{rest_step, rest_end}
use Rattle.tql_catalog.proofs.referring.move_down.Goals as goal

pub loop-place-preserved : goal.loop-place-preserved
loop-place-preserved c =
    rest_step (moved_down c.args.gone) c.loop-place.place-index c.loop-place.places c.moved_down.result 0
    (omega arith) c.moved_down.ensures ∙ c.loop-place.invariant

pub returns : goal.returns
returns c =
    sym (rest_end (moved_down c.args.gone) c.loop-place.place-index c.loop-place.places (omega arith))
    ∙ c.loop-place.invariant
