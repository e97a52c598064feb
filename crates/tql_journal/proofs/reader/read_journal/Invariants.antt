use Rattle.std.proofs.Common.{◌-◌, ◌^◌, if◌then◌else◌}
use Rattle.tql_journal.proofs.ReadLemmas.{Reads}
use Rattle.tql_journal.proofs.reader.read_journal.Given as goal

abbrev pub invariant-loop-may_go_on : goal.invariant-loop-may_go_on
invariant-loop-may_go_on g l = record {
  reads : Reads l.sought (g.R.Read.remaining l.fn.reader) (g.R.Read.remaining l.reader) l.window l.found
      l.is_ended l.may_go_on;
}

abbrev pub decreases-loop-may_go_on : goal.decreases-loop-may_go_on
decreases-loop-may_go_on g l = if l.is_ended then 0 else 2 ^ 64 - l.window.total
