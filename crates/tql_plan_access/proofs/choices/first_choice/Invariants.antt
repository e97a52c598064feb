use Rattle.std.proofs.Common.{◌≡◌, drop, map}
use Rattle.tql_expr.specs.Meaning.{cond}
use Rattle.tql_plan_access.specs.Choices.{choice_in}
use Rattle.tql_plan_access.proofs.choices.first_choice.Given as goal

-- the remaining conjuncts decide
abbrev pub invariant-loop-conjunct : goal.invariant-loop-conjunct
invariant-loop-conjunct l =
    choice_in l.singles.definition.now (map (cond l.terms) (drop l.conjunct-index l.conjuncts))
    ≡ choice_in l.singles.definition.now (map (cond l.terms) l.conjuncts)
