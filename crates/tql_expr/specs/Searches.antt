-- What a search in an expression looks for.
use Rattle.std.specs.Prelude.{Bool, nat_le}
use Rattle.tql_spec.specs.Binding.{is_loose}
use Rattle.tql_spec.specs.Creation.{has_aggregate, has_number, nests_aggregates, uses_column}
use Rattle.tql_spec.specs.Expression.{Expr}
use Rattle.tql_expr.specs.declared.search.Search.{Search}
use Rattle.tql_expr.specs.declared.search.Search.TheVariants.{Aggregate, Nested, Loose, From, OneOf}

-- whether an expression contains a match
abbrev pub sought : Search → Expr → Bool
sought Aggregate = has_aggregate
sought Nested = nests_aggregates
sought (Loose groups) = is_loose groups.now
sought (From first) = uses_column (λ i. nat_le first i)
sought (OneOf columns) = uses_column (λ i. has_number i columns.now)
