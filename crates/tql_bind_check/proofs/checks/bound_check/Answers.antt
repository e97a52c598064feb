use Rattle.std.proofs.Common.{ℕ, Bool}
use Rattle.tql_spec.specs.Creation.{has_number}
use Rattle.tql_spec.specs.Expression.{Cond}
use Rattle.tql_spec.specs.Names.{condition, unless}
use Rattle.tql_spec.specs.Refusal.{FormNotAllowedHere}
use Rattle.tql_expr.specs.Meaning.{cond}
use Rattle.tql_syntax_tree.specs.Conditions.{cond_of}
use Rattle.tql_bind_expr.specs.Scopes.{scope_of}
use Rattle.tql_bind_expr.proofs.Gathering.{bound, unless_asked}
use Rattle.tql_bind_check.specs.Checking.{is_wrong_check}
use Rattle.tql_bind_check.proofs.checks.bound_check.Goals as goal

pub returns-clause-bound : goal.returns-clause-bound
returns-clause-bound c =
    let b = cond c.condition.new.terms c.in_ok-bound.bound in
    let generated : ℕ → Bool = λ i. has_number i c.args.generated.now in
    bound (condition (scope_of c.args.scope.now) (cond_of c.args.check.now))
    (λ (d : Cond). unless (is_wrong_check generated d) FormNotAllowedHere d) c.args.faults.now c.condition.new.faults
    c.refuse_if.new.self b b c.in_ok-bound.ensures.bound
    (unless_asked c.is_wrong_check-is_wrong.result (is_wrong_check generated b) FormNotAllowedHere b
    c.condition.new.faults c.refuse_if.new.self c.is_wrong_check-is_wrong.ensures c.refuse_if.ensures)
