use Rattle.tql_syntax_grammar.proofs.StatementLaws.{spells_once}
use Rattle.tql_syntax_grammar.proofs.one_reading.Goals as goal

pub returns : goal.returns
returns c = c.pinned_readers.ensures.agree spells_once
