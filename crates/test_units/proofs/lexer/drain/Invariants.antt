use Rattle.std.proofs.Common.{◌≡◌}
use Rattle.tql_splitter.specs.Stream.{to_do}
use Rattle.test_units.proofs.lexer.drain.Given as goal

abbrev pub invariant-loop-piece : goal.invariant-loop-piece
invariant-loop-piece l = l.splitter.ended ≡ l.fn.splitter.ended

abbrev pub decreases-loop-piece : goal.decreases-loop-piece
decreases-loop-piece l = to_do l.splitter
