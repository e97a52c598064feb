use Rattle.std.proofs.Common.{sym, ap, ◌∙◌}
use Rattle.tql_journal.specs.Reading.{begins_line}
use Rattle.tql_journal.proofs.FrontLemmas.{rest_whole}
use Rattle.tql_journal.proofs.ReadLemmas.{no_line_here}
use Rattle.tql_journal.proofs.reader.has_line.Goals as goal

pub loop-index-preserved : goal.loop-index-preserved
loop-index-preserved c = record {
  none = c.loop-index.invariant.none
      ∙ no_line_here c.args.bytes.now c.loop-index.index c.loop-index-test.true
      (ap begins_line (sym (rest_whole c.args.bytes.now c.loop-index.index)) ∙ sym c.begins_line.ensures
      ∙ c.if-begins_line.false);
}
