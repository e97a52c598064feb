use Rattle.std.specs.Int.{int_max}
use Rattle.std.proofs.Common.{arith, ap, ◌∙◌}
use Rattle.tql_index.specs.Line.{place_of}
use Rattle.tql_index.specs.Slots.{entry_of}
use Rattle.tql_index.proofs.Runs.{end_more}
use Rattle.tql_index.proofs.run.last_end.Goals as goal

pub loop-place-preserved : goal.loop-place-preserved
loop-place-preserved g c =
    let x = entry_of c.at.result in
    end_more c.args.slots.now c.loop-place.place x (place_of c.loop-place.end) (place_of c.later-end.result)
    c.loop-place.invariant (c.at.ensures x) (omega (arith, c.loop-place-test.true, c.len-place-end.ensures))
    (c.later-end.ensures ∙ ap (λ z. int_max (place_of c.loop-place.end) z) c.end.ensures)
