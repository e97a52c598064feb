use Rattle.tql_spec.specs.Period.{share_a_point}
use Rattle.tql_index.specs.Spans.{points_between}
use Rattle.tql_list_index.proofs.Listing.{Listed}
use Rattle.tql_list_index.proofs.list_index.ListIndex.between.Given as goal

abbrev pub invariant-loop-held : goal.invariant-loop-held
invariant-loop-held l =
    Listed (λ e. share_a_point e.period (points_between l.from l.to)) l.held-items l.held-index l.found.items
