use Rattle.std.proofs.Common.{◌≡◌, ◌<◌, ◌^◌, drop}
use Rattle.tql_options.specs.Sizes.{number_behind}
use Rattle.tql_options.proofs.sizes.number.Given as goal

abbrev pub invariant-loop-byte : goal.invariant-loop-byte
invariant-loop-byte l = record {
  small : l.number < 2 ^ 64;
  same : number_behind l.number (drop l.byte-index l.digits) ≡ number_behind 0 l.digits;
}
