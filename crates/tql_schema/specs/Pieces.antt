-- What is still to be written of a condition.
use Rattle.std.specs.Prelude.{◌<◌}
use Rattle.tql_expr.specs.Meaning.{size}
use Rattle.tql_expr.specs.declared.terms.Terms.{Terms}
use Rattle.tql_schema.specs.declared.conditions.Piece.{Piece}
use Rattle.tql_schema.specs.declared.conditions.Piece.TheVariants as piece

-- a node that is still to be written is one of the terms
abbrev pub Fits : Terms → Piece → Type 0
Fits terms (piece.Words words) = Unit {0}
Fits terms (piece.Part at least) = at < size terms
