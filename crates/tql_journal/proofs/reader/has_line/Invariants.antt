use Rattle.std.proofs.Common.{◌≡◌, drop}
use Rattle.tql_journal.specs.Reading.{has_line}
use Rattle.tql_journal.proofs.reader.has_line.Given as goal

-- no line begins before the index
abbrev pub invariant-loop-index : goal.invariant-loop-index
invariant-loop-index l = record { none : has_line l.bytes ≡ has_line (drop l.index l.bytes) }
