use Rattle.std.proofs.Common.{◌≡◌, drop}
use Rattle.tql_spec.specs.Query.{by_columns}
use Rattle.tql_expr.specs.Shown.{shown_by}
use Rattle.tql_key_rows.specs.Touched.{tuple}
use Rattle.tql_key_rows.proofs.ranks.compare_tuples.Given as goal

-- the result depends on the remaining columns
abbrev pub invariant-loop-column : goal.invariant-loop-column
invariant-loop-column l =
    let left = drop l.column-index l.columns in
    by_columns (tuple left (shown_by l.a)) (tuple left (shown_by l.b))
    ≡ by_columns (tuple l.columns (shown_by l.a)) (tuple l.columns (shown_by l.b))
