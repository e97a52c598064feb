-- Numbers are compared by their rows.
use Rattle.std.proofs.Common.{rules}
use Rattle.std.specs.Ordering.{is_lt}
use Rattle.std.proofs.lemmas.List.Sorted.{ranks_by}
use Rattle.std.proofs.lemmas.Fn.{always_returns_same}
use Rattle.tql_spec.specs.Query.{by_columns}
use Rattle.tql_spec.proofs.Orders.{by_columns-total}
use Rattle.tql_exec_numbered.specs.Runs.{row_at}
use Rattle.tql_exec_numbered.proofs.runs.sort.Goals as goal

pub returns-clause-sorted : goal.returns-clause-sorted
returns-clause-sorted c =
    let rows = c.args.rows.now in
    c.sort_unstable_by.ensures.sorted (λ x y. is_lt (by_columns (row_at rows x) (row_at rows y)))
    (ranks_by by_columns-total (row_at rows))
    (always_returns_same _ _ _ (λ a r f' k. (search rules, search rules)))
