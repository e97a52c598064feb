-- Sorted by their ranks, and the same bag.
use Rattle.std.proofs.Common.{rules}
use Rattle.std.specs.Ordering.{is_lt}
use Rattle.std.proofs.lemmas.List.Sorted.{ranks_by}
use Rattle.std.proofs.lemmas.Fn.{always_returns_same}
use Rattle.tql_spec.specs.Datum.{Row}
use Rattle.tql_spec.specs.Query.{by_columns}
use Rattle.tql_spec.proofs.Bags.{same-sym, same-map, same-permutation}
use Rattle.tql_spec.proofs.Orders.{by_columns-total}
use Rattle.tql_expr.specs.Shown.{shown_by}
use Rattle.tql_expr.specs.declared.stored.StoredRow.{StoredRow}
use Rattle.tql_key_rows.specs.Ranks.{rank}
use Rattle.tql_key_rows.proofs.Ranked.{sorted_by}
use Rattle.tql_key_rows.proofs.ranks.sort_by_ranks.Goals as goal

pub returns-clause-sorted : goal.returns-clause-sorted
returns-clause-sorted c =
    let p : Row → Row = rank c.args.definition.now c.args.columns.now in
    sorted_by p shown_by c.sort_unstable_by.new.self.items
    (c.sort_unstable_by.ensures.sorted
    (λ (x y : StoredRow). is_lt (by_columns (p (shown_by x)) (p (shown_by y))))
    (ranks_by by_columns-total (λ (x : StoredRow). p (shown_by x)))
    (always_returns_same _ _ _ (λ a r f' k. (search rules, search rules))))

pub returns-clause-same : goal.returns-clause-same
returns-clause-same c = same-map shown_by (same-sym (same-permutation c.sort_unstable_by.ensures.permutation))
