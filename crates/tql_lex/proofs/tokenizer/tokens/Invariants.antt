use Rattle.std.proofs.Common.{length, drop, ◌-◌, ◌≤◌}
use Rattle.std.specs.Prelude.{map}
use Rattle.tql_lex.specs.Tokens.{token_of}
use Rattle.tql_lex.proofs.TokensLemmas.{SoFar}
use Rattle.tql_lex.proofs.PlaceLemmas.{Placed}
use Rattle.tql_lex.proofs.tokenizer.tokens.Given as goal

abbrev pub invariant-loop-start : goal.invariant-loop-start
invariant-loop-start l =
    (l.end ≤ length l.text) × SoFar l.text (map token_of l.found.items) (drop l.end l.text) × Placed 0 l.found.items
    l.text l.end

abbrev pub decreases-loop-start : goal.decreases-loop-start
decreases-loop-start l = length l.text - l.end
