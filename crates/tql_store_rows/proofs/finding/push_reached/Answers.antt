use Rattle.std.proofs.Common.{refl}
use Rattle.tql_store_rows.proofs.Picked.{picked_step}
use Rattle.tql_store_rows.specs.Picked.{picked, stands_at}
use Rattle.tql_store_rows.proofs.finding.push_reached.Goals as goal

pub loop-place-preserved : goal.loop-place-preserved
loop-place-preserved g c =
    picked_step (picked c.args.closed c.args.ended.now (stands_at c.args.seats.now c.args.indexes.now)) c.args.past.now
    c.loop-place.place-index _ c.loop-place.places.items c.push_lender.new.places.items _ c.loop-place-test.true refl
    c.in_ok-push_lender.ensures c.loop-place.invariant
