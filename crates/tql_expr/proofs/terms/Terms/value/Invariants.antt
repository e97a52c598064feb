use Rattle.std.proofs.Common.{◌≡◌, drop, map}
use Rattle.tql_plan_laws.specs.Constants.{value_in}
use Rattle.tql_expr.specs.Meaning.{cond}
use Rattle.tql_expr.proofs.terms.Terms.value.Given as goal

-- the remaining conjuncts decide
abbrev pub invariant-loop-conjunct : goal.invariant-loop-conjunct
invariant-loop-conjunct l =
    value_in l.column (map (cond l.self) (drop l.conjunct-index l.conjuncts)) ≡ value_in l.column
    (map (cond l.self) l.conjuncts)
