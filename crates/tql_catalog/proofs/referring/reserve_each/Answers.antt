use Rattle.std.proofs.Common.{◌<◌, ◌∙◌, length, arith}
use Rattle.std.proofs.lemmas.List.Elements.{AllWithin-more_set}
use Rattle.tql_catalog.specs.Referring.{HasRoom}
use Rattle.tql_catalog.proofs.Rests.{same_places}
use Rattle.tql_catalog.proofs.referring.reserve_each.Goals as goal

pub returns-in_err-reserve-clause-lists : goal.returns-in_err-reserve-clause-lists
returns-in_err-reserve-clause-lists c =
    same_places c.loop-list.lists c.loop-list.list-index c.list-item.result c.reserve.new.self (omega arith)
    c.reserve.ensures.items ∙ c.loop-list.invariant.0

pub loop-list-preserved : goal.loop-list-preserved
loop-list-preserved c =
    let within : c.loop-list.list-index < length c.loop-list.lists = omega arith in (
      same_places c.loop-list.lists c.loop-list.list-index c.list-item.result c.reserve.new.self within
          c.reserve.ensures.items ∙ c.loop-list.invariant.0,
      AllWithin-more_set c.loop-list.lists c.loop-list.list-index c.reserve.new.self within HasRoom
          c.loop-list.invariant.1 (let room = c.in_ok-reserve.ensures.ok in omega (arith, room)),
    )
