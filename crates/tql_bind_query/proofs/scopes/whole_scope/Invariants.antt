use Rattle.std.proofs.Common.{drop}
use Rattle.tql_bind_query.proofs.ScopeLaws.{WholeLeads}
use Rattle.tql_bind_query.proofs.scopes.whole_scope.Given as goal

-- the references so far and those of the remaining chains
abbrev pub invariant-loop-chain : goal.invariant-loop-chain
invariant-loop-chain l = WholeLeads l.linked l.scope.items l.width (drop l.chain-index l.linked)
