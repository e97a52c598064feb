use Rattle.std.proofs.Common.{rules}
use Rattle.tql_syntax.proofs.TextLaws.{spelled_says}
use Rattle.tql_syntax.proofs.text.spelled_text.Goals as goal

pub returns : goal.returns
returns c = spelled_says _ _ c.in_ok-tokens.ensures.tokens _ (search rules)
