use Rattle.tql_value.proofs.DigitLemmas.{SpellsFront}
use Rattle.tql_value.proofs.literal.number_of_digits.Given as goal

abbrev pub invariant-loop-byte : goal.invariant-loop-byte
invariant-loop-byte l = SpellsFront l.number l.byte-index l.bytes
