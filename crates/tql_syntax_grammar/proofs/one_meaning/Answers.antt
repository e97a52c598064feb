use Rattle.tql_spec.proofs.OneMeaning.{runs_agree}
use Rattle.tql_syntax_grammar.proofs.StatementLaws.{spells_once}
use Rattle.tql_syntax_grammar.proofs.one_meaning.Goals as goal

pub returns : goal.returns
returns c = runs_agree spells_once
