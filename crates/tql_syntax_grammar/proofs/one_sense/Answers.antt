use Rattle.tql_spec.proofs.OneMeaning.{senses_are_one}
use Rattle.tql_syntax_grammar.proofs.StatementLaws.{spells_once}
use Rattle.tql_syntax_grammar.proofs.one_sense.Goals as goal

pub returns : goal.returns
returns c = senses_are_one spells_once
