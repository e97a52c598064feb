use Rattle.tql_syntax_grammar.proofs.StatementLaws.{reads_statement, statement_is_read}
use Rattle.tql_syntax_grammar.proofs.reading_is_the_grammar.Goals as goal

pub returns : goal.returns
returns c = λ ts s. (reads_statement ts s, statement_is_read ts s)
