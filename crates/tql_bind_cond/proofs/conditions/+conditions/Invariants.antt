use Rattle.std.proofs.Common.{drop, ◌∷◌}
use Rattle.tql_bind_expr.specs.Scopes.{scope_of}
use Rattle.tql_bind_cond.proofs.Lists.{ConditionLeads, ConjLeads}
use Rattle.tql_bind_cond.proofs.conditions.+conditions.Given as goal

-- the bound parts and the remaining ones give all
abbrev pub invariant-condition-loop-part : goal.invariant-condition-loop-part
invariant-condition-loop-part l =
    ConditionLeads (scope_of l.scope) l.condition l.part-items l.fn.terms l.fn.faults l.terms
    (l.first ∷ l.rest.items) (drop l.part-index l.part-items) l.faults

abbrev pub invariant-conj-loop-part : goal.invariant-conj-loop-part
invariant-conj-loop-part l =
    ConjLeads (scope_of l.scope) l.conj l.part-items l.fn.terms l.fn.faults l.terms (l.first ∷ l.rest.items)
    (drop l.part-index l.part-items) l.faults
