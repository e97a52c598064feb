use Rattle.std.proofs.Common.{◌≡◌, ◌++◌, take, drop}
use Rattle.tql_host.specs.Kinds.{kind_bytes}
use Rattle.tql_host.proofs.kinds.put_numbers.Given as goal

abbrev pub invariant-loop-index : goal.invariant-loop-index
invariant-loop-index l = l.room ≡ take l.index (kind_bytes l.kinds) ++ drop l.index l.initial.room
