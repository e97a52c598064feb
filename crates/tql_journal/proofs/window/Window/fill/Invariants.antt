use Rattle.std.proofs.Common.{◌-◌, ◌≡◌, ◌≤◌, ◌+◌, ◌^◌, take}
use Rattle.std.specs.Prelude.{vec_len}
use Rattle.tql_journal.proofs.WindowLemmas.{Fed}
use Rattle.tql_journal.proofs.window.Window.fill.Given as goal

abbrev pub invariant-loop-self : goal.invariant-loop-self
invariant-loop-self g l = record {
  start : l.self-inside.start ≡ 0;
  stop : l.self-inside.stop ≤ 1_114_182;
  size : vec_len l.self-inside.bytes ≡ 1_114_182;
  limit : l.self-inside.total ≤ 2 ^ 63 + 1_114_182;
  fed : Fed (g.R.Read.remaining l.fn.reader) (g.R.Read.remaining l.reader) l.fn.self.bytes
      (take l.self-inside.stop l.self-inside.bytes.items) l.fn.self.total l.self-inside.total;
}

abbrev pub decreases-loop-self : goal.decreases-loop-self
decreases-loop-self g l = 1_114_182 - l.self-inside.stop
