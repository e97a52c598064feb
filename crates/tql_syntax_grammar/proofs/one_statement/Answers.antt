use Rattle.tql_syntax_grammar.proofs.TextLaws.{one_statement}
use Rattle.tql_syntax_grammar.proofs.one_statement.Goals as goal

pub returns : goal.returns
returns c = one_statement
