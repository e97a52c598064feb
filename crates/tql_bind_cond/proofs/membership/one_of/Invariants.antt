use Rattle.std.proofs.Common.{drop, map, ◌∷◌, [], ◌++◌}
use Rattle.tql_syntax_tree.specs.Expressions.{expr_of, boxed_expr_of}
use Rattle.tql_bind_expr.specs.Bounds.{typed_of}
use Rattle.tql_bind_expr.specs.Scopes.{scope_of}
use Rattle.tql_bind_cond.proofs.Lists.{CondsLead, equals}
use Rattle.tql_bind_cond.proofs.membership.one_of.Given as goal

-- the bound equalities and the remaining ones give all
abbrev pub invariant-loop-next : goal.invariant-loop-next
invariant-loop-next l =
    CondsLead (equals (scope_of l.scope) (typed_of l.fn.terms l.operand))
    (expr_of l.first ∷ map boxed_expr_of l.more) l.fn.terms l.fn.faults l.terms
    (l.before.items ++ l.last ∷ []) (map boxed_expr_of (drop l.next-index l.more)) l.faults
