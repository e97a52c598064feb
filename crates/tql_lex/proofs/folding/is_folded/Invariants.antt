use Rattle.std.proofs.Common.{◌≡◌, length}
use Rattle.std.specs.Prelude.{map}
use Rattle.std.specs.Str.{bytes_eq}
use Rattle.tql_spec.specs.Token as token
use Rattle.tql_spec.specs.Words.{same_text}
use Rattle.tql_lex.proofs.folding.is_folded.Given as goal

abbrev pub invariant-loop-left : goal.invariant-loop-left
invariant-loop-left l = same_text (map token.upper l.bytes) l.wanted ≡ bytes_eq (map token.upper l.left) l.others

abbrev pub decreases-loop-left : goal.decreases-loop-left
decreases-loop-left l = length l.left
