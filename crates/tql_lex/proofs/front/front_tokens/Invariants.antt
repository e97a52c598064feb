use Rattle.std.proofs.Common.{length, ◌-◌, ◌≤◌}
use Rattle.tql_lex.proofs.PlaceLemmas.{Placed}
use Rattle.tql_lex.proofs.front.front_tokens.Given as goal

abbrev pub invariant-loop-start : goal.invariant-loop-start
invariant-loop-start l = (l.end ≤ length l.text) × Placed 0 l.tokens.items l.text l.end

abbrev pub decreases-loop-start : goal.decreases-loop-start
decreases-loop-start l = length l.text - l.end
