use Rattle.std.proofs.Common.{ap, ◌∙◌, take}
use Rattle.tql_journal.specs.Seals.{HoldsBytes}
use Rattle.tql_journal_desk.specs.Held.{held_of}
use Rattle.tql_journal_desk.specs.Desks.{Desk, events_of}
use Rattle.tql_journal_desk.proofs.OrderLemmas.{in_order, pushed_on, kept_pushed, kept_same, appends_pushed}
use Rattle.tql_journal_desk.proofs.sink.JournalSinkSink.push.Goals as goal

pub invariant_of-self-2 : goal.invariant_of-self-2
invariant_of-self-2 g c =
    pushed_on (take c.fitting-count.result c.args.bytes.now) (g.L.Log.content c.make_room.new.journal.log)
    (g.L.Log.content c.note_pushed.new.self.log) (g.O.Out.sent c.make_room.new.replies.out)
    (g.O.Out.sent c.hold.new.self.out) c.make_room.new.journal.seal c.note_pushed.new.self.seal
    c.make_room.new.journal.lines.items c.note_pushed.new.self.lines.items
    (held_of c.make_room.new.replies.sent c.make_room.new.replies.bytes.items)
    (held_of c.hold.new.self.sent c.hold.new.self.bytes.items) c.make_room.new.journal.owes
    c.note_pushed.new.self.owes c.make_room.new.journal.failed c.note_pushed.new.self.failed
    (c.make_room.ensures.order (in_order (g.L.Log.content c.self.inside.journal.log)
    (g.O.Out.sent c.self.inside.replies.out) (HoldsBytes c.self.inside.journal.seal)
    c.self.inside.journal.lines.items (held_of c.self.inside.replies.sent c.self.inside.replies.bytes.items)
    c.self.inside.journal.owes c.self.inside.journal.failed c.self.inside.flushed c.self.invariant))
    c.note_pushed.ensures.content (ap (λ o. g.O.Out.sent o) c.hold.ensures.out) c.note_pushed.ensures.seal
    (ap (λ v. v.items) c.note_pushed.ensures.lines) c.hold.ensures.held c.note_pushed.ensures.owes
    c.note_pushed.ensures.failed

pub returns-clause-taken : goal.returns-clause-taken
returns-clause-taken g c =
    appends_pushed (take c.fitting-count.result c.args.bytes.now) c.args.self.now.content
    (g.L.Log.content c.make_room.new.journal.log) (g.L.Log.content c.note_pushed.new.self.log)
    (c.make_room.ensures.events ∙ ap (λ (d : Desk). events_of d.content) c.self.view_is) c.note_pushed.ensures.content

pub returns-clause-texts : goal.returns-clause-texts
returns-clause-texts g c =
    kept_pushed (take c.fitting-count.result c.args.bytes.now) (g.L.Log.content c.make_room.new.journal.log)
    (g.L.Log.content c.note_pushed.new.self.log) c.note_pushed.ensures.content
    ∙ kept_same c.args.self.now.content (g.L.Log.content c.make_room.new.journal.log)
    (c.make_room.ensures.events ∙ ap (λ (d : Desk). events_of d.content) c.self.view_is)
