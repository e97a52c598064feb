use Rattle.std.proofs.Common.{◌≡◌, drop, map}
use Rattle.tql_spec.specs.Expression.{eval}
use Rattle.tql_spec.specs.Words.{map_all}
use Rattle.tql_expr.specs.Evaluated.{behind}
use Rattle.tql_expr.specs.Meaning.{expr}
use Rattle.tql_value.specs.Views.{row_of}
use Rattle.tql_expr.proofs.values.values_on.Given as goal

-- the values so far, followed by those of the remaining expressions, are the values of all
abbrev pub invariant-loop-expr : goal.invariant-loop-expr
invariant-loop-expr g l =
    let value = eval (g.C.Columns.group l.columns) (g.C.Columns.values l.columns) in
    behind (row_of l.values.items) (map_all value (map (expr l.terms) (drop l.expr-index l.exprs))) ≡ map_all value
    (map (expr l.terms) l.exprs)
