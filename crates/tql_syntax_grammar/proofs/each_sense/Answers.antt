use Rattle.tql_syntax_grammar.proofs.RunReading.{reads_the_tokens, reads_the_sense}
use Rattle.tql_syntax_grammar.proofs.each_sense.Goals as goal

pub returns-clause-tokens : goal.returns-clause-tokens
returns-clause-tokens c = reads_the_tokens

pub returns-clause-sense : goal.returns-clause-sense
returns-clause-sense c = reads_the_sense
