use Rattle.std.proofs.Common.{subst, map, []}
use Rattle.std.specs.Prelude.{option_map}
use Rattle.tql_spec.specs.Expression.{eval}
use Rattle.tql_spec.specs.Words.{map_all}
use Rattle.tql_bound.specs.Changes.{tuple_of}
use Rattle.tql_expr.specs.Evaluated.{Evaluated}
use Rattle.tql_dml.specs.Alters.{tuples_in}
use Rattle.tql_dml.specs.Cells.{stored_cells}
use Rattle.tql_new_rows.proofs.values.insertion_rows.Goals as goal

pub returns : goal.returns
returns c =
    let d = c.args.definition.now in
    let x = c.args.insertion.now in
    let result = c.rows_of_tuples.result in
    subst (λ js. Evaluated (λ rows. rows.items) (option_map (map (stored_cells d js)) (tuples_in x)) result)
    c.deref.ensures.value
    (subst (λ ts. Evaluated (λ rows. rows.items)
    (option_map (map (stored_cells d c.deref.result.now)) (map_all (map_all (eval [] [])) (map (tuple_of x.terms) ts)))
    result) c.deref-2.ensures.value c.rows_of_tuples.ensures)
