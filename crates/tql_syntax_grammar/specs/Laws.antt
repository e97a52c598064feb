-- The law of the reading functions: they return exactly the statement that the tokens spell by the grammar.
use Rattle.std.specs.Prelude.{◌≡◌, ◌↔◌, List, Some}
use Rattle.tql_spec.specs.Token.{Token}
use Rattle.tql_spec.specs.Syntax.{Statement}
use Rattle.tql_spec.specs.Grammar.{IsStatement}
use Rattle.tql_syntax_grammar.specs.ReadingStatements.{read_statement}

abbrev pub ReadsTheGrammar : Type 0
ReadsTheGrammar = (ts : List Token) (s : Statement) → (read_statement ts ≡ Some s) ↔ IsStatement s ts
