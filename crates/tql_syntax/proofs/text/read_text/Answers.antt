use Rattle.std.proofs.Common.{rules, arith}
use Rattle.tql_syntax.proofs.TextLaws.{text_says}
use Rattle.tql_syntax.proofs.text.read_text.Goals as goal

pub returns-in-Ok : goal.returns-in-Ok
returns-in-Ok c = text_says _ (omega arith) (search rules) _ (search rules)
