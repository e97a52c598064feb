use Rattle.std.proofs.Common.{ℕ, Bool, List, [], subst}
use Rattle.tql_spec.specs.Creation.{has_number}
use Rattle.tql_spec.specs.Expression.{Cond}
use Rattle.tql_spec.specs.Names.{check_each}
use Rattle.tql_spec.specs.Syntax.{Condition}
use Rattle.tql_bind_expr.specs.Gathered.{Gathers}
use Rattle.tql_bind_expr.specs.Scopes.{scope_of}
use Rattle.tql_bind_expr.proofs.Gathering.{sound_here}
use Rattle.tql_bind_check.specs.Checking.{check_by}
use Rattle.tql_bind_check.proofs.checks.element_check.Goals as goal

pub returns-in-None-clause-bound : goal.returns-in-None-clause-bound
returns-in-None-clause-bound c =
    let old = c.args.faults.now in
    let generated : ℕ → Bool = λ i. has_number i c.args.generated.now in
    let nothing : List Cond = [] in
    subst (λ (cs : List Condition). Gathers (check_each (check_by generated (scope_of c.args.scope.now)) cs) old old
    nothing) c.in-None.ensures (sound_here nothing old)
