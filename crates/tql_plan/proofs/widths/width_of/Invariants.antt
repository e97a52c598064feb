use Rattle.std.proofs.Common.{◌≡◌, drop}
use Rattle.tql_plan.specs.Planned.{chains_width}
use Rattle.tql_plan.proofs.widths.width_of.Given as goal

-- invariant: the width so far, with the chains left, is the whole width
abbrev pub invariant-loop-chain : goal.invariant-loop-chain
invariant-loop-chain l = chains_width l.width (drop l.chain-index l.chains) ≡ chains_width 0 l.chains
