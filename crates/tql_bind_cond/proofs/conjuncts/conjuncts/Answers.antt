use Rattle.std.proofs.Common.{List, map, IfOk, subst, sym, ◌∙◌}
use Rattle.tql_spec.specs.Expression.{Cond}
use Rattle.tql_spec.specs.Names.{Checked}
use Rattle.tql_expr.specs.Meaning.{cond}
use Rattle.tql_bind_expr.specs.Gathered.{Gathers}
use Rattle.tql_bind_expr.specs.Scopes.{scope_of}
use Rattle.tql_bind_cond.proofs.ConjunctLaws.{conjuncts_alone, conjuncts_behind}
use Rattle.tql_bind_cond.proofs.conjuncts.conjuncts.Goals as goal

pub returns-then-is_empty-clause-bound : goal.returns-then-is_empty-clause-bound
returns-then-is_empty-clause-bound c =
    subst (λ (d : Checked (List Cond)). IfOk c.members.result
    (λ v. Gathers d c.args.faults.now c.members.new.faults (map (cond c.members.new.terms) v.items)))
    (conjuncts_alone (scope_of c.args.scope.now) c.args.condition.now (sym c.is_empty.ensures
    ∙ c.if-is_empty.true)) c.members.ensures.bound

pub returns-else-is_empty-clause-bound : goal.returns-else-is_empty-clause-bound
returns-else-is_empty-clause-bound c =
    subst (λ (d : Checked (List Cond)). IfOk c.one_conjunct.result
    (λ v. Gathers d c.args.faults.now c.one_conjunct.new.faults (map (cond c.one_conjunct.new.terms) v.items)))
    (conjuncts_behind (scope_of c.args.scope.now) c.args.condition.now (sym c.is_empty.ensures
    ∙ c.if-is_empty.false)) c.one_conjunct.ensures.bound
