-- Rows that are sorted, and without duplicates under DISTINCT, are the printed rows.
use Rattle.std.proofs.Common.{map, ap, sym, ◌∙◌}
use Rattle.tql_spec.proofs.Bags.{same-trans}
use Rattle.tql_spec.specs.Query.{in_order, if_distinct}
use Rattle.tql_bound.specs.Queries.{order_of}
use Rattle.tql_value.specs.Views.{rows_of}
use Rattle.tql_exec_sort.proofs.Printed.{rows_printed, distinct_printed}
use Rattle.tql_exec_sort.proofs.sorting.arrange.Goals as goal

pub returns-then-is_distinct : goal.returns-then-is_distinct
returns-then-is_distinct c bag b =
    let keys = map order_of c.args.keys.now in
    c.drop_repeats.ensures
    ∙ distinct_printed c.order_is_one.ensures.order c.order_is_one.ensures.distinct keys
    (rows_of c.sort_rows.new.rows.items) bag c.in_ok-sort_rows.ensures.sorted
    (same-trans c.in_ok-sort_rows.ensures.same b)
    ∙ ap (λ d. in_order keys (if_distinct d bag)) (sym c.if-is_distinct.true)

pub returns-else-is_distinct : goal.returns-else-is_distinct
returns-else-is_distinct c bag b =
    let keys = map order_of c.args.keys.now in
    rows_printed c.order_is_one.ensures.order keys (rows_of c.sort_rows.new.rows.items) bag
    c.in_ok-sort_rows.ensures.sorted (same-trans c.in_ok-sort_rows.ensures.same b)
    ∙ ap (λ d. in_order keys (if_distinct d bag)) (sym c.if-is_distinct.false)
