use Rattle.std.proofs.Common.{subst}
use Rattle.tql_bind_draft.specs.PeriodNames.{IsAdded}
use Rattle.tql_bind_draft.proofs.PeriodLaws.{name_item, name_start}
use Rattle.tql_bind_draft.proofs.period_names.period_names.Goals as goal

pub loop-place-init : goal.loop-place-init
loop-place-init c = name_start c.none-names.result _ c.none-names.ensures

pub loop-place-preserved : goal.loop-place-preserved
loop-place-preserved c =
    let old = c.loop-place.names in
    let new = c.add.new.self in
    let place = c.loop-place.place in
    name_item old new c.args.periods.now place c.index-periods-place.result _ c.loop-place-test.true
    c.index-periods-place.is (subst (λ n. IsAdded old new place n) c.deref.ensures c.in_ok-add.ensures)
    c.loop-place.invariant
