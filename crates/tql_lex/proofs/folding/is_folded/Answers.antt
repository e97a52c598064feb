use Rattle.std.proofs.Common.{arith}
use Rattle.tql_lex.proofs.WordLemmas.{other_length}
use Rattle.tql_lex.proofs.folding.is_folded.Goals as goal

pub returns-then-bytes-wanted : goal.returns-then-bytes-wanted
returns-then-bytes-wanted c = other_length c.args.bytes.now c.args.wanted.now (omega arith)
