-- Which statements create a table.
use Rattle.std.specs.Prelude.{Bool, true, false}
use Rattle.tql_spec.specs.Syntax.{Statement, CreateTree}

-- whether a statement is CREATE TABLE
abbrev pub is_creation : Statement → Bool
is_creation (CreateTree n e es versioned) = true
is_creation _ = false
