use Rattle.std.proofs.Common.{◌≡◌, ◌≤◌, ℕ, List, false, length}
use Rattle.tql_splitter.specs.Stream.{to_do}
use Rattle.tql_splitter.specs.Holding.{Holds}
use Rattle.tql_splitter.proofs.splitter.Splitter.advance.Given as goal

abbrev pub invariant-loop-byte : goal.invariant-loop-byte
invariant-loop-byte l = record {
  still : l.self.given ≡ false;
  ended : l.self.ended ≡ l.fn.self.ended;
  line : l.self.line ≡ l.fn.self.line;
  no_more : to_do l.self ≤ to_do l.fn.self;
  holds : (passed left : List ℕ) → Holds l.fn.self passed left → Holds l.self passed left;
}

abbrev pub decreases-loop-byte : goal.decreases-loop-byte
decreases-loop-byte l = length l.self.ready
