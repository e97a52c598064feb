use Rattle.std.proofs.Common.{◌≡◌, ◌++◌, drop, map}
use Rattle.tql_value.specs.Views.{plain_kind}
use Rattle.tql_engine_read.proofs.KnownKinds.{known_of}
use Rattle.tql_engine_read.proofs.held.column_kinds.known_kinds.Given as goal

-- the known kinds so far, followed by those among the remaining ones, are all known ones
abbrev pub invariant-loop-kind : goal.invariant-loop-kind
invariant-loop-kind l = map plain_kind l.known.items ++ known_of (drop l.kind-index l.kinds) ≡ known_of l.kinds
