use Rattle.std.proofs.Common.{drop, map}
use Rattle.tql_spec.specs.Syntax.{TheseItems}
use Rattle.tql_syntax_tree.specs.Statements.{item_of}
use Rattle.tql_bind_expr.specs.Scopes.{scope_of}
use Rattle.tql_bind_query.specs.Shown.{shown}
use Rattle.tql_bind_query.proofs.ShownLaws.{ItemsLead}
use Rattle.tql_bind_query.proofs.outputs.these.Given as goal

-- the items so far and the remaining ones
abbrev pub invariant-loop-item : goal.invariant-loop-item
invariant-loop-item l =
    ItemsLead (scope_of l.scope) (shown (scope_of l.scope) (TheseItems (item_of l.first) (map item_of l.more)))
    l.fn.terms l.fn.faults l.terms l.outputs (map item_of (drop l.item-index l.more)) l.faults
