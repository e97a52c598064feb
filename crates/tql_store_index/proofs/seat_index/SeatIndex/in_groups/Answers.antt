use Rattle.std.proofs.Common.{subst, to_z, of_z, w64}
use Rattle.std.specs.Prelude.{IfOk}
use Rattle.std.proofs.Math.Facts.{to_z-of_z}
use Rattle.tql_spec.specs.Bag.{SameBag}
use Rattle.tql_spec.specs.Period.{Period, share_a_point}
use Rattle.tql_index.specs.Entry.{ids_sharing}
use Rattle.tql_index.specs.Spans.{groups_between}
use Rattle.tql_store_index.proofs.Entries.{found_ok}
use Rattle.tql_store_index.proofs.seat_index.SeatIndex.in_groups.Goals as goal

pub returns : goal.returns
returns g c =
    let Finds = λ (x : Period). IfOk c.in_groups.result
    (λ ids. SameBag ids.items (ids_sharing x (g.I.IntervalIndex.entries c.self.inside.index))) in
    found_ok c.in_groups.result (λ x. share_a_point x (groups_between c.args.low c.args.high)) _ _ c.args.self.now
    (subst (λ n. Finds (groups_between n c.args.high)) (to_z-of_z c.ranges.low)
    (subst (λ n. Finds (groups_between (to_z w64 (of_z w64 c.args.low)) n)) (to_z-of_z c.ranges.high)
    c.in_groups.ensures)) c.self.invariant c.self.view_is
