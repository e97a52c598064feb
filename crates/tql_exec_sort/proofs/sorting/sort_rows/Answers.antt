-- Sorting sorts the rows and keeps the bag.
use Rattle.std.proofs.Common.{◌≡◌, ◌++◌, map, ap, sym, subst, ◌∙◌, List}
use Rattle.std.specs.List.Sorted.{IsSorted}
use Rattle.std.proofs.lemmas.List.Sorted.{IsPermutation-map, All-permutation}
use Rattle.tql_spec.specs.Bag.{SameBag}
use Rattle.tql_spec.specs.Query.{OrderKey, row_order}
use Rattle.tql_spec.proofs.Bags.{same-permutation, same-sym, same-trans}
use Rattle.tql_bound.specs.Queries.{order_of}
use Rattle.tql_value.specs.Views.{rows_of}
use Rattle.tql_exec_sort.specs.declared.sorting.Ranked.{Ranked}
use Rattle.tql_exec_sort.specs.Rank.{row_in, HasRank}
use Rattle.tql_exec_sort.proofs.RankedRows.{ranked_sorted}
use Rattle.tql_exec_sort.proofs.sorting.sort_rows.Goals as goal

pub returns-clause-sorted : goal.returns-clause-sorted
returns-clause-sorted c =
    let keys : List OrderKey = map order_of c.args.keys.now in
    let first : OrderKey = order_of c.first_key-first.result in
    let ranked : List Ranked = c.in_ok-ranked.ranked.items in
    let sorted : List Ranked = c.sort_ranked.new.ranked.items in
    let put : rows_of c.put_back.new.rows.items ≡ map row_in sorted
    = c.in_ok-put_back.ensures ∙ ap (λ rs. rows_of rs ++ map row_in sorted) c.in_ok-ranked.ensures.taken in
    subst (IsSorted (row_order keys)) (sym put)
    (ranked_sorted keys first c.first_key-first.ensures sorted
    (All-permutation (HasRank first.column) ranked sorted c.sort_ranked.ensures.same c.in_ok-ranked.ensures.ranks)
    c.sort_ranked.ensures.sorted)

pub returns-clause-same : goal.returns-clause-same
returns-clause-same c =
    let ranked : List Ranked = c.in_ok-ranked.ranked.items in
    let sorted : List Ranked = c.sort_ranked.new.ranked.items in
    let put : rows_of c.put_back.new.rows.items ≡ map row_in sorted
    = c.in_ok-put_back.ensures ∙ ap (λ rs. rows_of rs ++ map row_in sorted) c.in_ok-ranked.ensures.taken in
    subst (λ rs. SameBag rs (rows_of c.args.rows.now.items)) (sym put)
    (same-trans (same-sym (same-permutation (IsPermutation-map row_in ranked sorted c.sort_ranked.ensures.same)))
    c.in_ok-ranked.ensures.same)
