-- Values that are sorted.
use Rattle.std.proofs.Common.{rules}
use Rattle.std.specs.Ordering.{is_lt}
use Rattle.std.proofs.lemmas.List.Sorted.{ranks_by}
use Rattle.std.proofs.lemmas.Fn.{always_returns_same}
use Rattle.tql_spec.specs.Datum.{order}
use Rattle.tql_spec.proofs.Orders.{order-total}
use Rattle.tql_value.specs.Views.{datum_of_view}
use Rattle.tql_plan_access.proofs.Distinct.{sorted_by_key}
use Rattle.tql_plan_access.proofs.alternatives.sort_values.Goals as goal

pub returns-clause-sorted : goal.returns-clause-sorted
returns-clause-sorted c =
    sorted_by_key datum_of_view c.sort_unstable_by.new.self.items
    (c.sort_unstable_by.ensures.sorted (λ x y. is_lt (order (datum_of_view x) (datum_of_view y)))
    (ranks_by order-total datum_of_view)
    (always_returns_same _ _ _ (λ a r f' k. (search rules, search rules))))
