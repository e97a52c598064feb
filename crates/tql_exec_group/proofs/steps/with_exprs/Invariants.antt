use Rattle.std.proofs.Common.{◌+◌, ◌-◌, ◌<◌, ◌≤◌, All, take}
use Rattle.tql_expr.specs.Meaning.{size}
use Rattle.tql_expr.specs.declared.terms.ExprId.{ExprId}
use Rattle.tql_exec_group.specs.Steps.{LiesIn}
use Rattle.tql_exec_group.proofs.steps.with_exprs.Given as goal

-- invariant: the expressions so far lie in the stretch
abbrev pub invariant-loop-expr : goal.invariant-loop-expr
invariant-loop-expr l = record {
  holds : All (λ (x : ExprId). LiesIn l.all.from (l.all.last + 1) x.place) (take l.expr-index l.exprs);
  from : l.all.from ≤ l.fn.stretch.from;
  last : l.fn.stretch.last ≤ l.all.last;
  within : l.fn.stretch.last ≤ size l.terms - 1 → l.all.last ≤ size l.terms - 1;
  some : (l.fn.stretch.from ≤ l.fn.stretch.last → 0 < size l.terms) → l.all.from ≤ l.all.last → 0 < size l.terms;
}
