use Rattle.std.proofs.Common.{◌<◌, ◌^◌, ◌+◌, length}
use Rattle.tql_journal.proofs.EntryLemmas.{TakesSome}
use Rattle.tql_journal.proofs.entries.take_entries.Given as goal

abbrev pub invariant-loop-front : goal.invariant-loop-front
invariant-loop-front l = record {
  room : l.found.end + length l.window.bytes < 2 ^ 64;
  takes : TakesSome l.sought l.fn.window l.window l.fn.found l.found l.front;
}

abbrev pub decreases-loop-front : goal.decreases-loop-front
decreases-loop-front l = length l.window.bytes
