-- The rest of CREATE after its first parts.
use Rattle.std.specs.Prelude.{List, []}
use Rattle.tql_spec.specs.Definition.{Name}
use Rattle.tql_spec.specs.Token.{Close}
use Rattle.tql_spec.specs.Syntax.{Element, Statement, CreateTree}
use Rattle.tql_syntax_grammar.specs.Outcome.{Read, Parser, ◌>>=◌, symbol, more, next}
use Rattle.tql_syntax_grammar.specs.ReadingStatements.{element_at, versioning_at}

-- CREATE, after its elements
unfoldable pub create_end : Name → Element → List Element → Parser Statement
create_end n e es ts = versioning_at ts >>= λ v rest. Read (CreateTree n e es v) rest

-- CREATE, after its first element
unfoldable pub elements_end : Name → Element → Parser Statement
elements_end n e ts = more (next element_at) [] ts >>= λ es a. symbol Close a >>= λ _ b. create_end n e es b
