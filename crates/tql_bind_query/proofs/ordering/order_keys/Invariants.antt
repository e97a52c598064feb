use Rattle.std.proofs.Common.{drop, map}
use Rattle.std.specs.Prelude.{string_bytes}
use Rattle.tql_spec.specs.Binding.{order_key}
use Rattle.tql_bound.specs.Queries as bound
use Rattle.tql_syntax_tree.specs.Statements.{order_of}
use Rattle.tql_bind_expr.proofs.Gathering.{EachLeads}
use Rattle.tql_bind_query.proofs.ordering.order_keys.Given as goal

-- the keys so far and the remaining ones
abbrev pub invariant-loop-index : goal.invariant-loop-index
invariant-loop-index l =
    EachLeads (order_key (map string_bytes l.headings)) (map order_of l.keys) l.fn.faults
    (map bound.order_of l.bound.items) (map order_of (drop l.index l.keys)) l.faults
