use Rattle.std.proofs.Common.{ap, ◌∙◌}
use Rattle.tql_result.specs.Devices.{with_text}
use Rattle.tql_journal.specs.Seals.{HoldsBytes}
use Rattle.tql_journal_desk.specs.Held.{held_of}
use Rattle.tql_journal_desk.specs.Desks.{Desk, kept_of, pushed_by}
use Rattle.tql_journal_desk.proofs.OrderLemmas.{keeps_order, kept_more, pushed_still}
use Rattle.tql_journal_desk.proofs.sink.JournalSinkSink.keep.Goals as goal

pub invariant_of-self : goal.invariant_of-self
invariant_of-self g c =
    keeps_order c.args.text.now (g.L.Log.content c.self.inside.journal.log) (g.L.Log.content c.keep.new.self.log)
    (g.O.Out.sent c.self.inside.replies.out) (HoldsBytes c.self.inside.journal.seal) (HoldsBytes c.keep.new.self.seal)
    c.self.inside.journal.lines.items c.keep.new.self.lines.items
    (held_of c.self.inside.replies.sent c.self.inside.replies.bytes.items) c.self.inside.journal.owes
    c.self.inside.journal.failed c.self.inside.flushed c.keep.new.self.owes c.keep.new.self.failed c.self.invariant
    c.keep.ensures.keeps c.keep.ensures.failed c.keep.ensures.owes

pub returns-clause-kept : goal.returns-clause-kept
returns-clause-kept g c =
    kept_more c.args.text.now (g.L.Log.content c.self.inside.journal.log) (g.L.Log.content c.keep.new.self.log)
    c.keep.new.self.failed (HoldsBytes c.self.inside.journal.seal) (HoldsBytes c.keep.new.self.seal)
    c.self.inside.journal.lines.items c.keep.new.self.lines.items c.keep.ensures.keeps
    ∙ ap (λ (d : Desk). with_text c.args.text.now (kept_of d.content)) c.self.view_is

pub returns-clause-written : goal.returns-clause-written
returns-clause-written g c =
    pushed_still c.args.text.now (g.L.Log.content c.self.inside.journal.log) (g.L.Log.content c.keep.new.self.log)
    c.keep.new.self.failed (HoldsBytes c.self.inside.journal.seal) (HoldsBytes c.keep.new.self.seal)
    c.self.inside.journal.lines.items c.keep.new.self.lines.items c.keep.ensures.keeps
    ∙ ap (λ (d : Desk). pushed_by d.content) c.self.view_is
