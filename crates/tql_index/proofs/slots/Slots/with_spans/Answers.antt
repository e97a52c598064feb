use Rattle.std.proofs.Common.{arith}
use Rattle.tql_index.specs.Slots.{entry_of}
use Rattle.tql_index.proofs.Forms.{copied_more}
use Rattle.tql_index.proofs.slots.Slots.with_spans.Goals as goal

pub loop-place-preserved : goal.loop-place-preserved
loop-place-preserved g c =
    copied_more entry_of c.loop-place.spans.items c.push.new.self.items c.args.self.now c.loop-place.place c.at.result
    c.loop-place.invariant c.in_ok-push.ensures.items (c.at.ensures (entry_of c.at.result))
    (omega (arith, c.loop-place-test.true, c.len-place-end.ensures))
