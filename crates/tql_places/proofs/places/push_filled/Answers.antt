use Rattle.std.proofs.Common.{◌++◌, ◌+◌, ◌∙◌, ap, drop, map, arith}
use Rattle.std.proofs.lemmas.List.{drop_more, drop_all}
use Rattle.tql_value.specs.declared.value.View.TheVariants as view
use Rattle.tql_value.specs.Views.{datum_of_view}
use Rattle.tql_places.specs.Places.{filled}
use Rattle.tql_places.proofs.Filling.{fills_all}
use Rattle.tql_places.proofs.places.push_filled.Goals as goal

pub loop-value-preserved : goal.loop-value-preserved
loop-value-preserved c = c.loop-value.invariant
    ∙ ap (λ xs. c.loop-value.bytes.items ++ filled c.loop-value.rest.now (map datum_of_view xs))
    (drop_more c.args.values.now c.loop-value.value-index view.Null c.loop-value-test.true)
    ∙ c.in_ok-rest.ensures (map datum_of_view (drop (c.loop-value.value-index + 1) c.args.values.now))

pub returns : goal.returns
returns c =
    fills_all (c.args.bytes.now.items ++ filled c.args.text.now (map datum_of_view c.args.values.now))
    c.loop-value.bytes.items c.extend_from_slice.new.self.items c.loop-value.rest.now
    (map datum_of_view (drop c.loop-value.value-index c.args.values.now))
    (ap (map datum_of_view) (drop_all c.loop-value.value-index c.args.values.now (omega arith)))
    c.loop-value.invariant c.in_ok-extend_from_slice.ensures.items
