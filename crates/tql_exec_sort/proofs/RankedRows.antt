-- Sorting rows by the ranks of their values first.
use Rattle.std.proofs.Common.{◌≡◌, ◌+◌, Bool, true, false, List, [], ◌∷◌, ◌++◌, map, get_or, sym, ap}
use Rattle.std.proofs.Common.{subst, ◌∙◌, arith}
use Rattle.std.specs.Prelude.{All}
use Rattle.std.specs.Cmp.{IsTotalOrder}
use Rattle.std.specs.List.Sorted.{IsSorted, IsSortedBy}
use Rattle.std.specs.declared.cmp.Ordering.{Ordering}
use Rattle.std.specs.Ordering.{ordering_then, ordering_reverse, is_lt}
use Rattle.std.proofs.lemmas.Cmp.{nat_cmp_total, int_cmp_total, on_total, then_total, back_total}
use Rattle.std.proofs.lemmas.List.Sums.{sum_by-append}
use Rattle.tql_spec.specs.Bag.{SameBag}
use Rattle.tql_spec.specs.Datum.{Row}
use Rattle.tql_spec.specs.Definition.{cell}
use Rattle.tql_spec.specs.Query.{OrderKey, directed, row_order}
use Rattle.tql_spec.proofs.Orders.{total_along}
use Rattle.tql_spec.proofs.OrderBags.{row_order_total}
use Rattle.tql_exec_sort.specs.declared.rank.Rank.{Rank}
use Rattle.tql_exec_sort.specs.declared.sorting.Ranked.{Ranked}
use Rattle.tql_exec_sort.specs.Rank.{by_rank, by_rest, first_of, row_in, HasRank, ranked_order}
use Rattle.tql_exec_sort.proofs.Printed.{sorted_rows}
use Rattle.tql_exec_sort.proofs.Ranked.{directed_then, rank_told, row_told, then_joins}

rank_total : IsTotalOrder by_rank
rank_total = then_total (on_total (λ (r : Rank). r.kind) nat_cmp_total)
    (on_total (λ (r : Rank). r.number) int_cmp_total)

rest_total : IsTotalOrder by_rest
rest_total = on_total (λ (r : Rank). r.rest) nat_cmp_total

turned_total : {A : Type 0} (falls : Bool) (R : A → A → Ordering) → IsTotalOrder R
    → IsTotalOrder (λ a b. directed falls (R a b))
turned_total false R o = o
turned_total true R o =
    total_along (λ a b. R b a) (λ a b. ordering_reverse (R a b)) (λ a b. sym (o.antisymm b a)) (back_total o)

-- the order is total, whatever the ranks
pub ranked_total : (falls : Bool) (keys : List OrderKey) → IsTotalOrder (ranked_order falls keys)
ranked_total falls keys =
    then_total (on_total (λ (x : Ranked). x.rank) (turned_total falls by_rank rank_total))
    (then_total (on_total (λ (x : Ranked). x.rank) (turned_total falls by_rest rest_total))
    (on_total row_in (row_order_total keys)))

-- with the ranks of the first sort column, it is the order of the rows
ranked_rows : (keys : List OrderKey) (a b : Ranked) → HasRank (first_of keys).column a
    → HasRank (first_of keys).column b → ranked_order (first_of keys).falls keys a b
    ≡ row_order keys (row_in a) (row_in b)
ranked_rows keys a b p q =
    let first = first_of keys in
    let one = by_rank a.rank b.rank in
    let two = by_rest a.rank b.rank in
    then_joins (directed first.falls one) (directed first.falls two) (row_order keys (row_in a) (row_in b))
    ∙ ap (λ o. ordering_then o (row_order keys (row_in a) (row_in b))) (sym (directed_then first.falls one two))
    ∙ row_told keys (row_in a) (row_in b) (ordering_then one two)
    (rank_told (cell (row_in a) first.column) (cell (row_in b) first.column) a.rank b.rank p q)

-- rows sorted by it are in the printed order
pub ranked_sorted : (keys : List OrderKey) (first : OrderKey) → first ≡ first_of keys → (xs : List Ranked)
    → All (HasRank first.column) xs → IsSortedBy (λ x y. is_lt (ranked_order first.falls keys x y)) xs
    → IsSorted (row_order keys) (map row_in xs)
ranked_sorted keys first e xs all sorted =
    let ranks : All (HasRank (first_of keys).column) xs = subst (λ k. All (HasRank k.column) xs) e all in
    sorted_rows (row_order keys) row_in xs (λ k d l h.
    let x : Ranked = get_or xs k d in
    let y : Ranked = get_or xs (k + 1) d in
    ap is_lt (sym (ranked_rows keys y x (ranks (k + 1) d h) (ranks k d (omega (arith, h)))))
    ∙ ap (λ f. is_lt (ranked_order f.falls keys y x)) (sym e) ∙ sorted k d l h)

-- moving a row from the end of one list to the end of another
pub moved_over : (done left : List Row) (r : Row) → SameBag ((done ++ r ∷ []) ++ left) (done ++ (left ++ r ∷ []))
moved_over done left r = record {
  totals = λ w. omega (
    arith,
    sum_by-append w (done ++ r ∷ []) left,
    sum_by-append w done (r ∷ []),
    sum_by-append w done (left ++ r ∷ []),
    sum_by-append w left (r ∷ []),
  );
}
