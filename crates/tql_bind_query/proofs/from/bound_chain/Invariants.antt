use Rattle.std.proofs.Common.{drop, map}
use Rattle.tql_catalog.specs.Tables.{definitions_of}
use Rattle.tql_syntax_tree.specs.Statements.{chain_of, join_of}
use Rattle.tql_bind_query.proofs.ChainLaws.{ChainLeads}
use Rattle.tql_bind_query.proofs.from.bound_chain.Given as goal

-- the joins so far and the remaining ones
abbrev pub invariant-loop-join : goal.invariant-loop-join
invariant-loop-join l =
    ChainLeads (definitions_of l.catalog) (chain_of l.written) l.fn.terms l.fn.faults l.terms l.linked
    (map join_of (drop l.join-index l.join-items)) l.faults l.join-index
