use Rattle.std.proofs.Common.{◌∙◌, ap, arith, slice_index_or, []}
use Rattle.std.proofs.lemmas.List.{map_push, get_or_default}
use Rattle.tql_spec.specs.Expression.{eval}
use Rattle.tql_value.specs.Views.{datum_of_view}
use Rattle.tql_expr.specs.Meaning.{expr}
use Rattle.tql_expr.specs.declared.terms.ExprId.{ExprId}
use Rattle.tql_expr.proofs.Evaluations.{one_more}
use Rattle.tql_dml.specs.Cells.{data_of}
use Rattle.tql_new_rows.proofs.values.views_on.Goals as goal

pub loop-expr-preserved : goal.loop-expr-preserved
loop-expr-preserved c =
    let tuple = c.args.tuple.now in
    let place = c.loop-expr.expr-index in
    let x : ExprId = slice_index_or tuple place (record { place = 0 }) in
    let view = c.in_ok-view_on.field-0 in
    one_more (eval [] []) (expr c.args.terms.now) (data_of c.loop-expr.views.items) (data_of c.push.new.self.items)
    tuple place x (datum_of_view view) _ (omega arith)
    (get_or_default tuple place (record { place = 0 }) x (omega arith))
    c.in_ok-view_on.ensures
    (ap data_of c.in_ok-push.ensures.ok ∙ map_push datum_of_view c.loop-expr.views.items view)
    c.loop-expr.invariant
