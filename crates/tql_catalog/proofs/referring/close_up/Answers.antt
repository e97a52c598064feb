use Rattle.std.proofs.Common.{rules, tests, ap, ◌∙◌, map, length}
use Rattle.std.proofs.lemmas.Fn.{filter_same}
use Rattle.std.proofs.lemmas.List.{length-map, with_items_is}
use Rattle.std.specs.Prelude.{not, ◌==◌}
use Rattle.tql_catalog.specs.Referring.{moved_down}
use Rattle.tql_catalog.proofs.referring.close_up.Goals as goal

pub returns : goal.returns
returns c =
    with_items_is c.retain.new.self c.move_down.new.places (ap length c.move_down.ensures
    ∙ length-map c.deref_mut.result.now (moved_down c.args.gone) ∙ c.deref_mut.ensures.len)
    ∙ c.move_down.ensures ∙ ap (map (moved_down c.args.gone)) (c.deref_mut.ensures.value
    ∙ filter_same _ (λ p. not (p == c.args.gone)) _
    (λ x b f' h. (search (rules, tests), search rules)) _ _ c.retain.ensures.filtered)
