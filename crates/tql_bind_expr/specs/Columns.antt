-- The columns that names mean.
use Rattle.std.specs.Prelude.{ℕ, List, [], ◌∷◌, Option, Some, None}
use Rattle.tql_spec.specs.Expression.{Column}
use Rattle.tql_spec.specs.Names.{Thing, AColumn, Typed, typed}
use Rattle.tql_value.specs.Views.{plain_kind}
use Rattle.tql_value.specs.declared.value.Kind.{Kind}

-- the column with this index and type
abbrev pub numbered : ℕ × Kind → Typed
numbered c = typed (Column c.0) (plain_kind c.1)

-- the column that a name means, if it means exactly one column and nothing else
abbrev pub sole_column : List Thing → Option Typed
sole_column (AColumn i c ∷ []) = Some (typed (Column i) c.kind)
sole_column _ = None
