use Rattle.std.proofs.Common.{◌≡◌, map, take, string_bytes}
use Rattle.tql_terminal.specs.Terminal.{names_width}
use Rattle.tql_terminal.proofs.records.widest.Given as goal

abbrev pub invariant-loop-name : goal.invariant-loop-name
invariant-loop-name l = l.width ≡ names_width (map string_bytes (take l.name-index l.names))
