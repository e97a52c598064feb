use Rattle.std.proofs.Common.{◌≡◌, ◌++◌, drop, map}
use Rattle.tql_value.specs.Views.{datum_of_view}
use Rattle.tql_expr.specs.Meaning.{cond}
use Rattle.tql_plan_access.specs.Access.{value_or_null}
use Rattle.tql_plan_access.proofs.given.given_tuple.Given as goal

-- the values so far, followed by those of the remaining columns
abbrev pub invariant-loop-column : goal.invariant-loop-column
invariant-loop-column l =
    map (value_or_null (map (cond l.terms) l.conjuncts)) l.columns
    ≡ map datum_of_view l.tuple.items
    ++ map (value_or_null (map (cond l.terms) l.conjuncts)) (drop l.column-index l.columns)
