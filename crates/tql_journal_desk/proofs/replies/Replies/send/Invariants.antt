use Rattle.std.proofs.Common.{◌≡◌, ◌-◌}
use Rattle.std.specs.Prelude.{vec_len}
use Rattle.tql_journal_desk.specs.Order.{Steps}
use Rattle.tql_journal_desk.specs.Held.{held_of, Leaves}
use Rattle.tql_journal_desk.proofs.replies.Replies.send.Given as goal

abbrev pub invariant-loop-self : goal.invariant-loop-self
invariant-loop-self g l = record {
  bytes : l.self.bytes ≡ l.fn.self.bytes;
  leaves : Steps (Leaves (held_of l.fn.self.sent l.fn.self.bytes.items) (held_of l.self.sent l.self.bytes.items))
      (g.O.Out.sent l.fn.self.out) (g.O.Out.sent l.self.out);
}

abbrev pub decreases-loop-self : goal.decreases-loop-self
decreases-loop-self g l = vec_len l.self.bytes - l.self.sent
