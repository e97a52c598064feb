use Rattle.std.proofs.Common.{ℕ, List, ap, ◌∙◌}
use Rattle.std.proofs.lemmas.List.Filters.{dedup_is}
use Rattle.tql_spec.specs.Creation.{has_number}
use Rattle.tql_bind_query.proofs.Once.{numbers_stay}
use Rattle.tql_bind_query.proofs.grouping.distinct.Goals as goal

pub returns : goal.returns
returns c i =
    numbers_stay i c.in_ok-distinct.distinct.items c.sort_unstable.new.self.items c.dedup.new.self.items
    c.sort_unstable.ensures.permutation (dedup_is _ _ _ c.dedup.ensures.filtered)
    ∙ ap (λ (ns : List ℕ). has_number i ns) c.in_ok-distinct.ensures.items
