use Rattle.std.proofs.Common.{◌≡◌, drop, map}
use Rattle.tql_expr.specs.declared.terms.CondId.{CondId}
use Rattle.tql_exec_group.specs.Steps.{passes_by, truth_in}
use Rattle.tql_exec_group.proofs.on_group.passes_on.Given as goal

-- the remaining conjuncts decide
abbrev pub invariant-loop-cond : goal.invariant-loop-cond
invariant-loop-cond l =
    let truth = truth_in l.results.from l.results.found.now in
    passes_by truth (map (λ (c : CondId). c.place) (drop l.cond-index l.having))
    ≡ passes_by truth (map (λ (c : CondId). c.place) l.having)
