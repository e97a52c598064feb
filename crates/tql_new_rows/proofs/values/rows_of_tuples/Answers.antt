use Rattle.std.proofs.Common.{◌∙◌, sym, ap, subst, arith, map, List, [], Option}
use Rattle.std.specs.Prelude.{option_map}
use Rattle.tql_spec.specs.Datum.{Row}
use Rattle.tql_spec.specs.Expression.{Expr, eval}
use Rattle.tql_spec.specs.Words.{map_all}
use Rattle.tql_bound.specs.Changes.{tuple_of}
use Rattle.tql_expr.specs.Meaning.{expr}
use Rattle.tql_expr.specs.Evaluated.{Fails}
use Rattle.tql_expr.proofs.Evaluations.{one_more, one_lacks, all_made, fails_with}
use Rattle.tql_dml.specs.Cells.{stored_cells}
use Rattle.tql_new_rows.proofs.TupleRows.{each_mapped, fails_as}
use Rattle.tql_new_rows.proofs.values.rows_of_tuples.Goals as goal

pub returns-in_err-tuple_row : goal.returns-in_err-tuple_row
returns-in_err-tuple_row c =
    let g = stored_cells c.args.definition.now c.args.columns.now in
    let values : List Expr → Option Row = map_all (eval [] []) in
    let terms = c.args.terms.now in
    let tuples = c.args.tuples.now in
    let e = c.in_err-tuple_row.field-0.0 in
    let here = subst (λ ids. Fails (option_map g (values (map (expr terms) ids))) e) c.deref.ensures.value
    c.in_err-tuple_row.ensures in
    let whole = sym (each_mapped values g (map (tuple_of terms) tuples)) in
    fails_as _ _ e c.from_residual-in_err-tuple_row.result c.from_residual-in_err-tuple_row.ensures
    (fails_with (option_map g (values (tuple_of terms c.tuple-item.result))) _ e
    (λ none. whole ∙ one_lacks (λ tuple. option_map g (values tuple)) (tuple_of terms) c.loop-tuple.rows.items tuples
    c.loop-tuple.tuple-index c.tuple-item.result _ (omega arith) c.tuple-item.is c.loop-tuple.invariant none) here)

pub loop-tuple-preserved : goal.loop-tuple-preserved
loop-tuple-preserved c =
    let g = stored_cells c.args.definition.now c.args.columns.now in
    let values : List Expr → Option Row = map_all (eval [] []) in
    let terms = c.args.terms.now in
    one_more (λ tuple. option_map g (values tuple)) (tuple_of terms) c.loop-tuple.rows.items c.push.new.self.items
    c.args.tuples.now c.loop-tuple.tuple-index c.tuple-item.result c.in_ok-tuple_row.field-0 _ (omega arith)
    c.tuple-item.is
    (ap (λ ids. option_map g (values (map (expr terms) ids))) (sym c.deref.ensures.value) ∙ c.in_ok-tuple_row.ensures)
    c.in_ok-push.ensures.items c.loop-tuple.invariant

pub returns : goal.returns
returns c =
    let g = stored_cells c.args.definition.now c.args.columns.now in
    let values : List Expr → Option Row = map_all (eval [] []) in
    let terms = c.args.terms.now in
    sym (each_mapped values g (map (tuple_of terms) c.args.tuples.now))
    ∙ all_made (λ tuple. option_map g (values tuple)) (tuple_of terms) c.loop-tuple.rows.items c.args.tuples.now
    c.loop-tuple.tuple-index _ (omega arith) c.loop-tuple.invariant
