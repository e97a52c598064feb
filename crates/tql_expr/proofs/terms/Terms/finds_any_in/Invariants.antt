use Rattle.std.proofs.Common.{◌≡◌, drop, map}
use Rattle.std.specs.List.{list_any}
use Rattle.tql_spec.specs.Creation.{has_expr}
use Rattle.tql_expr.specs.Meaning.{cond}
use Rattle.tql_expr.specs.Searches.{sought}
use Rattle.tql_expr.proofs.terms.Terms.finds_any_in.Given as goal

-- the remaining conjuncts decide
abbrev pub invariant-loop-conjunct : goal.invariant-loop-conjunct
invariant-loop-conjunct l =
    list_any (has_expr (sought l.search)) (map (cond l.self) (drop l.conjunct-index l.conjuncts)) ≡ list_any
    (has_expr (sought l.search)) (map (cond l.self) l.conjuncts)
