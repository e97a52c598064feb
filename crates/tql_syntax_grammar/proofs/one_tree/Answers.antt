use Rattle.tql_syntax_grammar.proofs.StatementLaws.{spells_once}
use Rattle.tql_syntax_grammar.proofs.one_tree.Goals as goal

pub returns : goal.returns
returns c = spells_once
