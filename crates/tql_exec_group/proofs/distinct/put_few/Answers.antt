-- The value of one more item.
use Rattle.std.proofs.Common.{◌≡◌, ◌++◌, ◌+◌, ◌∷◌, ◌<◌, [], ap, arith, length, map, set, sym, take, ◌∙◌}
use Rattle.std.proofs.lemmas.List.{get_or_default, length-set, map-append, take_more_set}
use Rattle.tql_spec.specs.Expression.{eval}
use Rattle.tql_spec.specs.Words.{map_all}
use Rattle.tql_value.specs.Views.{datum_of_view}
use Rattle.tql_expr.specs.Meaning.{expr}
use Rattle.tql_expr.proofs.Evaluations.{one_more}
use Rattle.tql_exec_numbered.specs.Numbered.{seen}
use Rattle.tql_exec_group.proofs.distinct.put_few.Goals as goal

pub loop-place-preserved : goal.loop-place-preserved
loop-place-preserved g c =
    let value = eval (g.C.Columns.group c.args.scope.now) (g.C.Columns.values c.args.scope.now) in
    let tree = expr c.args.terms.now in
    let items = c.args.items.now in
    let views = c.loop-place.views in
    let place = c.loop-place.place in
    let view = c.in_ok-views.field-0 in
    let inside : place < length views =
    omega (arith, c.loop-place-test.true, c.requires.few, c.loop-place.invariant.1) in
    let pushed : seen (take (place + 1) (set views place view)) ≡ seen (take place views) ++ datum_of_view view ∷ [] =
    ap seen (take_more_set views place view inside) ∙ map-append datum_of_view (take place views) (view ∷ []) in (
      one_more value tree (seen (take place views)) (seen (take (place + 1) (set views place view))) items place
          _ (datum_of_view view) (map_all value (map tree items)) c.loop-place-test.true
          (get_or_default items place _ _ c.loop-place-test.true) (sym c.in_ok-views.ensures) pushed
          c.loop-place.invariant.0,
      length-set views place view ∙ c.loop-place.invariant.1,
    )
