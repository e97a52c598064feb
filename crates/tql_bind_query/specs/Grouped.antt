-- The numbers of grouping columns.
use Rattle.std.specs.Prelude.{ℕ, List, Option, option_map}
use Rattle.tql_spec.specs.Binding.{column_of}
use Rattle.tql_spec.specs.Names.{Thing, Typed}
use Rattle.tql_bind_expr.specs.Columns.{sole_column}

-- the number of the column that a name means, if it means exactly one column and nothing else
abbrev pub sole_number : List Thing → Option ℕ
sole_number ts = option_map (λ (t : Typed). column_of t.expr) (sole_column ts)
