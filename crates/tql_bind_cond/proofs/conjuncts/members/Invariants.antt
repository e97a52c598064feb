use Rattle.std.proofs.Common.{drop}
use Rattle.tql_bind_expr.specs.Scopes.{scope_of}
use Rattle.tql_bind_cond.proofs.Lists.{ConjLeads}
use Rattle.tql_bind_cond.proofs.conjuncts.members.Given as goal

-- the bound members and the remaining ones give all
abbrev pub invariant-loop-part : goal.invariant-loop-part
invariant-loop-part l =
    ConjLeads (scope_of l.scope) l.conj l.part-items l.fn.terms l.fn.faults l.terms l.all.items
    (drop l.part-index l.part-items) l.faults
