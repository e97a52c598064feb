use lib.Utf8.{encode}
use Rattle.std.proofs.Common.{rules}
use Rattle.tql_prompt.proofs.caret.push_cut.Goals as goal

pub returns-then-is_cut : goal.returns-then-is_cut
unfolding encode
returns-then-is_cut c = let e = c.if-is_cut.true in search rules
