use Rattle.std.proofs.Common.{◌+◌, ◌-◌, ◌<◌, ◌≤◌, All, take}
use Rattle.tql_expr.specs.Meaning.{size}
use Rattle.tql_expr.specs.declared.terms.CondId.{CondId}
use Rattle.tql_exec_group.specs.Steps.{LiesIn}
use Rattle.tql_exec_group.proofs.steps.with_conds.Given as goal

-- invariant: the conjuncts so far lie in the stretch
abbrev pub invariant-loop-cond : goal.invariant-loop-cond
invariant-loop-cond l = record {
  holds : All (λ (c : CondId). LiesIn l.all.from (l.all.last + 1) c.place) (take l.cond-index l.conds);
  within : l.fn.stretch.last ≤ size l.terms - 1 → l.all.last ≤ size l.terms - 1;
  some : (l.fn.stretch.from ≤ l.fn.stretch.last → 0 < size l.terms) → l.all.from ≤ l.all.last → 0 < size l.terms;
}
