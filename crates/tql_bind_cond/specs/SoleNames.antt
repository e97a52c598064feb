-- The name that a part of an expression is, if it is nothing else.
use Rattle.std.specs.Prelude.{Option, Some, None}
use Rattle.tql_spec.specs.Syntax.{Named, Primary, NumberLiteral, TextLiteral, DateLiteral, TimestampLiteral}
use Rattle.tql_spec.specs.Syntax.{ColumnNamed, Enclosed, CountStar, Over, Signed, Unsigned, Positive, Negative}
use Rattle.tql_spec.specs.Syntax.{Product, Factors, NoFactor, TimesFactor}

abbrev pub name_at : Primary → Option Named
name_at (NumberLiteral ds) = None
name_at (TextLiteral t) = None
name_at (DateLiteral t) = None
name_at (TimestampLiteral t) = None
name_at (ColumnNamed r) = Some r
name_at (Enclosed e) = None
name_at CountStar = None
name_at (Over f e) = None

abbrev pub name_in : Signed → Option Named
name_in (Unsigned p) = name_at p
name_in (Positive p) = None
name_in (Negative p) = None

abbrev pub sole_factor : Product → Option Named
sole_factor (Factors s NoFactor) = name_in s
sole_factor (Factors s (TimesFactor t more)) = None
