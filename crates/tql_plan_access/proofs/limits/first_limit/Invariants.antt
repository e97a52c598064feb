use Rattle.std.proofs.Common.{◌≡◌, drop, map}
use Rattle.tql_expr.specs.Meaning.{cond}
use Rattle.tql_plan_access.specs.Ranges.{limit_in}
use Rattle.tql_plan_access.proofs.limits.first_limit.Given as goal

-- the remaining conjuncts decide
abbrev pub invariant-loop-conjunct : goal.invariant-loop-conjunct
invariant-loop-conjunct l =
    limit_in l.is_low l.column (map (cond l.terms) (drop l.conjunct-index l.conjuncts))
    ≡ limit_in l.is_low l.column (map (cond l.terms) l.conjuncts)
