use Rattle.std.proofs.Common.{◌≡◌, drop}
use Rattle.tql_plan.specs.Planned.{joins_width}
use Rattle.tql_plan.proofs.widths.chain_width.Given as goal

-- invariant: the width so far, with the joins left, is the whole width
abbrev pub invariant-loop-join : goal.invariant-loop-join
invariant-loop-join l =
    joins_width l.width (drop l.join-index l.join-items) ≡ joins_width l.chain.first.width l.chain.joins.items
