use Rattle.std.proofs.Common.{◌+◌, ◌<◌, ◌≤◌, ◌∙◌, ap, sym, length, arith, []}
use Rattle.std.proofs.lemmas.List.{length-map, map-set}
use Rattle.tql_catalog.specs.Referring.{closed_up}
use Rattle.tql_catalog.specs.Sought.{lists_of}
use Rattle.tql_catalog.proofs.Rests.{rest, rest_step, rest_end, places_of}
use Rattle.tql_catalog.proofs.referring.close_each.Goals as goal

pub loop-list-preserved : goal.loop-list-preserved
loop-list-preserved c =
    let f = closed_up c.args.gone in
    let lists = c.loop-list.lists in
    let i = c.loop-list.list-index in
    let within : i < length lists = omega arith in
    ap (rest f (i + 1)) (map-set (λ v. v.items) lists i c.close_up.new.list)
    ∙ rest_step f i (lists_of lists) c.close_up.new.list.items []
    (omega (arith, within, length-map lists (λ v. v.items)))
    (c.close_up.ensures ∙ ap f (places_of lists i c.list-item.result [] within))
    ∙ c.loop-list.invariant

pub returns : goal.returns
returns c =
    let lists = c.loop-list.lists in
    let past : length lists ≤ c.loop-list.list-index = omega arith in
    sym (rest_end (closed_up c.args.gone) c.loop-list.list-index (lists_of lists)
    (omega (arith, past, length-map lists (λ v. v.items)))) ∙ c.loop-list.invariant
