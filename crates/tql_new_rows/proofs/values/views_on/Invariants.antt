use Rattle.std.proofs.Common.{◌≡◌, drop, map, []}
use Rattle.tql_spec.specs.Expression.{eval}
use Rattle.tql_spec.specs.Words.{map_all}
use Rattle.tql_expr.specs.Evaluated.{behind}
use Rattle.tql_expr.specs.Meaning.{expr}
use Rattle.tql_dml.specs.Cells.{data_of}
use Rattle.tql_new_rows.proofs.values.views_on.Given as goal

-- invariant: the values so far, and those of the expressions left, are those of all
abbrev pub invariant-loop-expr : goal.invariant-loop-expr
invariant-loop-expr l =
    behind (data_of l.views.items) (map_all (eval [] []) (map (expr l.terms) (drop l.expr-index l.tuple)))
    ≡ map_all (eval [] []) (map (expr l.terms) l.tuple)
