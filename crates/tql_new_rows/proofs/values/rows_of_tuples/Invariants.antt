use Rattle.std.proofs.Common.{◌≡◌, drop, map, []}
use Rattle.std.specs.Prelude.{option_map}
use Rattle.tql_spec.specs.Expression.{eval}
use Rattle.tql_spec.specs.Words.{map_all}
use Rattle.tql_bound.specs.Changes.{tuple_of}
use Rattle.tql_expr.specs.Evaluated.{behind}
use Rattle.tql_dml.specs.Cells.{stored_cells}
use Rattle.tql_new_rows.proofs.values.rows_of_tuples.Given as goal

-- invariant: the rows so far, and those of the tuples left, are those of all
abbrev pub invariant-loop-tuple : goal.invariant-loop-tuple
invariant-loop-tuple l =
    behind l.rows.items
    (map_all (λ tuple. option_map (stored_cells l.definition l.columns) (map_all (eval [] []) tuple))
    (map (tuple_of l.terms) (drop l.tuple-index l.tuples)))
    ≡ map_all (λ tuple. option_map (stored_cells l.definition l.columns) (map_all (eval [] []) tuple))
    (map (tuple_of l.terms) l.tuples)
