-- Sorting by ranks sorts the rows and keeps the bag.
use Rattle.std.proofs.Common.{rules, map, subst, sym, List, true, false}
use Rattle.std.specs.List.Sorted.{IsSortedBy}
use Rattle.std.specs.Ordering.{is_lt}
use Rattle.std.proofs.lemmas.List.Sorted.{ranks_by}
use Rattle.std.proofs.lemmas.Fn.{always_returns_same}
use Rattle.tql_spec.specs.Query.{OrderKey}
use Rattle.tql_bound.specs.Queries.{order_of}
use Rattle.tql_exec_sort.specs.Rank.{ranked_order}
use Rattle.tql_exec_sort.proofs.RankedRows.{ranked_total}
use Rattle.tql_exec_sort.proofs.sorting.sort_ranked.Goals as goal

pub returns-then-falls-clause-sorted : goal.returns-then-falls-clause-sorted
returns-then-falls-clause-sorted c =
    let keys : List OrderKey = map order_of c.args.keys.now in
    subst (λ f. IsSortedBy (λ x y. is_lt (ranked_order f keys x y)) c.sort_unstable_by.new.self.items)
    (sym c.if-falls.true)
    (c.sort_unstable_by.ensures.sorted (λ x y. is_lt (ranked_order true keys x y))
    (ranks_by (ranked_total true keys) (λ x. x))
    (always_returns_same _ _ _ (λ a r f' k. (search rules, search rules))))

pub returns-else-falls-clause-sorted : goal.returns-else-falls-clause-sorted
returns-else-falls-clause-sorted c =
    let keys : List OrderKey = map order_of c.args.keys.now in
    subst (λ f. IsSortedBy (λ x y. is_lt (ranked_order f keys x y)) c.sort_unstable_by-else-falls.new.self.items)
    (sym c.if-falls.false)
    (c.sort_unstable_by-else-falls.ensures.sorted (λ x y. is_lt (ranked_order false keys x y))
    (ranks_by (ranked_total false keys) (λ x. x))
    (always_returns_same _ _ _ (λ a r f' k. (search rules, search rules))))
