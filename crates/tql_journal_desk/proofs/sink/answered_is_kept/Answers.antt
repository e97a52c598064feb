use Rattle.std.proofs.Common.{subst}
use Rattle.tql_journal.specs.Seals.{HoldsBytes}
use Rattle.tql_journal_desk.specs.Held.{held_of}
use Rattle.tql_journal_desk.specs.Desks.{Desk}
use Rattle.tql_journal_desk.specs.Answered.{AnsweredIsKept}
use Rattle.tql_journal_desk.proofs.AnsweredLemmas.{answered}
use Rattle.tql_journal_desk.proofs.sink.answered_is_kept.Goals as goal

pub returns : goal.returns
returns g c =
    subst (λ (d : Desk). AnsweredIsKept d) c.sink.view_is
    (answered (record {
      content = g.L.Log.content c.sink.inside.journal.log;
      sent = g.O.Out.sent c.sink.inside.replies.out;
      failures = c.sink.inside.failures;
      flushed = c.sink.inside.flushed;
    }) (HoldsBytes c.sink.inside.journal.seal) c.sink.inside.journal.lines.items
    (held_of c.sink.inside.replies.sent c.sink.inside.replies.bytes.items) c.sink.inside.journal.owes
    c.sink.inside.journal.failed c.sink.inside.flushed c.sink.invariant)
