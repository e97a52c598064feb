use Rattle.tql_syntax_grammar.proofs.RunReading.{reads_the_run}
use Rattle.tql_syntax_grammar.proofs.each_meaning.Goals as goal

pub returns : goal.returns
returns c = reads_the_run
