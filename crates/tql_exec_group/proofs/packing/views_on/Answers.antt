-- The value of one more item.
use Rattle.std.proofs.Common.{ap, slice_index_or, sym, ◌∙◌}
use Rattle.std.proofs.lemmas.List.{get_or_default, map_push}
use Rattle.tql_spec.specs.Expression.{eval}
use Rattle.tql_value.specs.Views.{datum_of_view}
use Rattle.tql_expr.specs.Meaning.{expr}
use Rattle.tql_expr.specs.declared.terms.ExprId.{ExprId}
use Rattle.tql_expr.proofs.Evaluations.{one_more}
use Rattle.tql_exec_numbered.specs.Numbered.{seen}
use Rattle.tql_exec_group.proofs.packing.views_on.Goals as goal

pub loop-item-preserved : goal.loop-item-preserved
loop-item-preserved g c =
    let value = eval (g.C.Columns.group c.args.scope.now) (g.C.Columns.values c.args.scope.now) in
    let items = c.args.items.now in
    let place = c.loop-item.item-index in
    let x : ExprId = slice_index_or items place (record { place = 0 }) in
    let view = c.in_ok-eval.field-0 in
    one_more value (expr c.args.terms.now) (seen c.loop-item.views.items) (seen c.push.new.self.items) items place x
    (datum_of_view view) _ c.loop-item-test.true
    (get_or_default items place (record { place = 0 }) x c.loop-item-test.true) (sym c.in_ok-eval.ensures)
    (ap seen c.in_ok-push.ensures.ok ∙ map_push datum_of_view c.loop-item.views.items view)
    c.loop-item.invariant
