use Rattle.std.proofs.Common.{◌≡◌, drop}
use Rattle.std.specs.List.{list_all}
use Rattle.tql_options.specs.Seals.{is_hex_digit}
use Rattle.tql_options.proofs.seals.are_hex_digits.Given as goal

-- whether all bytes are digits is decided by the remaining ones
abbrev pub invariant-loop-byte : goal.invariant-loop-byte
invariant-loop-byte l = list_all is_hex_digit (drop l.byte-index l.bytes) ≡ list_all is_hex_digit l.bytes
