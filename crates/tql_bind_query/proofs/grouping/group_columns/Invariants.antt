use Rattle.std.proofs.Common.{drop, map}
use Rattle.tql_spec.specs.Binding.{group_column}
use Rattle.tql_syntax_tree.specs.Expressions.{named_of}
use Rattle.tql_bind_expr.specs.Scopes.{scope_of}
use Rattle.tql_bind_expr.proofs.Gathering.{EachLeads}
use Rattle.tql_bind_query.proofs.grouping.group_columns.Given as goal

-- the columns so far and the remaining ones
abbrev pub invariant-loop-index : goal.invariant-loop-index
invariant-loop-index l =
    EachLeads (group_column (scope_of l.scope)) (map named_of l.written) l.fn.faults l.numbers.items
    (map named_of (drop l.index l.written)) l.faults
