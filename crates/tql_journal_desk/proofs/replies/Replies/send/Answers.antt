use Rattle.std.proofs.Common.{ap, subst, ◌∙◌, ℕ, List, take, drop}
use Rattle.tql_journal.proofs.FrontLemmas.{rest_whole}
use Rattle.tql_journal_desk.specs.Order.{Steps, Sends}
use Rattle.tql_journal_desk.specs.Held.{held_of}
use Rattle.tql_journal_desk.proofs.HeldLemmas.{leaves_on}
use Rattle.tql_journal_desk.proofs.replies.Replies.send.Goals as goal

pub loop-self-preserved : goal.loop-self-preserved
loop-self-preserved g c =
    let sent : ℕ = c.loop-self.self.sent in
    let n : ℕ = c.in_ok-count.count in record {
      bytes = c.loop-self.invariant.bytes;
      leaves = leaves_on (g.O.Out.sent c.args.self.now.out) (g.O.Out.sent c.loop-self.self.out)
          (g.O.Out.sent c.send.new.self) (held_of c.args.self.now.sent c.args.self.now.bytes.items)
          c.loop-self.self.bytes.items sent n c.loop-self.invariant.leaves
          (subst (λ (z : List ℕ). Steps (Sends (take n z)) (g.O.Out.sent c.loop-self.self.out)
          (g.O.Out.sent c.send.new.self))
          (rest_whole c.as_slice.result.now sent ∙ ap (λ (z : List ℕ). drop sent z) c.as_slice.ensures.value)
          c.in_ok-count.ensures.ok);
    }
