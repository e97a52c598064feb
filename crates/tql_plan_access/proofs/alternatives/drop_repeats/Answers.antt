-- The first of adjacent equal values is kept.
use Rattle.std.proofs.Common.{rules, map, ◌∙◌, ap}
use Rattle.std.proofs.lemmas.Fn.{dedup_same}
use Rattle.tql_value.specs.Views.{datum_of_view}
use Rattle.tql_plan_access.proofs.Distinct.{dedup-map, tie}
use Rattle.tql_plan_access.proofs.alternatives.drop_repeats.Goals as goal

pub returns : goal.returns
returns c =
    ap (map datum_of_view) (dedup_same _ (λ x y. tie (datum_of_view x) (datum_of_view y)) _
    (λ x y b f' x' y' k. search rules) c.args.values.now.items _ c.dedup_by.ensures.filtered)
    ∙ dedup-map datum_of_view c.args.values.now.items
