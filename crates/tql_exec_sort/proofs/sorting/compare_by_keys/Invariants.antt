use Rattle.std.proofs.Common.{◌≡◌, drop, map}
use Rattle.tql_spec.specs.Query.{by_keys}
use Rattle.tql_bound.specs.Queries.{order_of}
use Rattle.tql_value.specs.Views.{row_of}
use Rattle.tql_exec_sort.proofs.sorting.compare_by_keys.Given as goal

-- invariant: the keys left decide
abbrev pub invariant-loop-key : goal.invariant-loop-key
invariant-loop-key l =
    by_keys (map order_of (drop l.key-index l.keys)) (row_of l.a) (row_of l.b)
    ≡ by_keys (map order_of l.keys) (row_of l.a) (row_of l.b)
