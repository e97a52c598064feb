use Rattle.std.proofs.Common.{drop, map}
use Rattle.tql_spec.specs.Creation.{has_number}
use Rattle.tql_syntax_tree.specs.Statements.{element_of}
use Rattle.tql_bind_expr.specs.Scopes.{scope_of}
use Rattle.tql_bind_check.specs.Checking.{check_by, checks_in, elements_in}
use Rattle.tql_bind_check.proofs.CheckSteps.{ChecksLead}
use Rattle.tql_bind_check.proofs.checks.bound_checks.Given as goal

-- the checks so far and those of the remaining elements
abbrev pub invariant-loop-element : goal.invariant-loop-element
invariant-loop-element l =
    ChecksLead (check_by (λ i. has_number i l.generated) (scope_of l.scope)) (checks_in (elements_in l.create))
    l.fn.faults l.terms l.conditions.items (checks_in (map element_of (drop l.element-index l.element-items)))
    l.faults
