use Rattle.std.proofs.Common.{◌≡◌, drop}
use Rattle.tql_plan.specs.Maps.{chains_keys, chains_maps}
use Rattle.tql_plan.proofs.counts.Counts.with_chains.Given as goal

-- invariant: the counts so far, plus those of the chains left, are the whole counts
abbrev pub invariant-loop-chain : goal.invariant-loop-chain
invariant-loop-chain l = record {
  maps : chains_maps l.counts.maps (drop l.chain-index l.chains) ≡ chains_maps l.fn.self.maps l.chains;
  keys : chains_keys l.counts.keys (drop l.chain-index l.chains) ≡ chains_keys l.fn.self.keys l.chains;
  intervals : l.counts.intervals ≡ l.fn.self.intervals;
}
