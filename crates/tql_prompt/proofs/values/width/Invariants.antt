use Rattle.std.proofs.Common.{◌≡◌, ◌≤◌, drop, Some}
use Rattle.tql_prompt.specs.Values.{widened}
use Rattle.tql_prompt.proofs.values.width.Given as goal

abbrev pub invariant-loop-byte : goal.invariant-loop-byte
invariant-loop-byte l = record {
  small : l.number ≤ 10_000;
  same : widened (Some l.number) (drop l.byte-index l.bytes) ≡ widened (Some 0) l.bytes;
}
