use Rattle.std.proofs.Common.{◌≡◌, drop, map}
use Rattle.tql_plan_laws.specs.Constants.{point_in}
use Rattle.tql_expr.specs.Meaning.{cond}
use Rattle.tql_expr.proofs.terms.Terms.point.Given as goal

-- the remaining conjuncts decide
abbrev pub invariant-loop-conjunct : goal.invariant-loop-conjunct
invariant-loop-conjunct l =
    point_in l.columns.0 l.columns.1 (map (cond l.self) (drop l.conjunct-index l.conjuncts)) ≡ point_in
    l.columns.0 l.columns.1 (map (cond l.self) l.conjuncts)
