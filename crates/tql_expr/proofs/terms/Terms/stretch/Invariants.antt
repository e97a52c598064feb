use Rattle.std.proofs.Common.{◌≡◌, drop, map}
use Rattle.tql_plan_laws.specs.Constants.{stretch_in}
use Rattle.tql_expr.specs.Meaning.{cond}
use Rattle.tql_expr.proofs.terms.Terms.stretch.Given as goal

-- the remaining conjuncts decide
abbrev pub invariant-loop-conjunct : goal.invariant-loop-conjunct
invariant-loop-conjunct l =
    stretch_in l.columns.0 l.columns.1 (map (cond l.self) (drop l.conjunct-index l.conjuncts)) ≡ stretch_in
    l.columns.0 l.columns.1 (map (cond l.self) l.conjuncts)
