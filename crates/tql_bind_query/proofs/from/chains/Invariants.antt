use Rattle.std.proofs.Common.{◌≡◌, ◌∷◌, ◌+◌, drop, length, map}
use Rattle.tql_catalog.specs.Tables.{definitions_of}
use Rattle.tql_syntax_tree.specs.Statements.{chain_of}
use Rattle.tql_bind_query.proofs.ChainLaws.{ChainsLead}
use Rattle.tql_bind_query.proofs.from.chains.Given as goal

-- the chains so far and the remaining ones
abbrev pub invariant-loop-written : goal.invariant-loop-written
invariant-loop-written l = record {
  counted : length l.all.items ≡ l.written-index + 1;
  lead : ChainsLead (definitions_of l.catalog) (chain_of l.first ∷ map chain_of l.more) l.fn.terms l.fn.faults
      l.terms l.all.items (map chain_of (drop l.written-index l.more)) l.faults;
}
