use Rattle.std.proofs.Common.{List, map, subst}
use Rattle.tql_spec.specs.Binding.{without_aggregates}
use Rattle.tql_spec.specs.Names.{conjuncts}
use Rattle.tql_expr.specs.Meaning.{cond}
use Rattle.tql_expr.specs.declared.terms.CondId.{CondId}
use Rattle.tql_syntax_tree.specs.Conditions.{cond_of}
use Rattle.tql_bind_expr.specs.Gathered.{Gathers}
use Rattle.tql_bind_expr.specs.Scopes.{scope_of}
use Rattle.tql_bind_expr.proofs.Gathering.{bound}
use Rattle.tql_bind_cond.proofs.conjuncts.plain_conjuncts.Goals as goal

pub returns-clause-bound : goal.returns-clause-bound
returns-clause-bound c =
    let terms = c.conjuncts.new.terms in
    let plain = subst
    (λ (xs : List CondId). Gathers (without_aggregates (map (cond terms) xs)) c.conjuncts.new.faults
    c.without_aggregates.new.faults (map (cond terms) xs)) c.deref.ensures.value c.without_aggregates.ensures in
    bound (conjuncts (scope_of c.args.scope.now) (cond_of c.args.condition.now)) without_aggregates _ _ _ _ _
    c.in_ok-all.ensures.bound plain
