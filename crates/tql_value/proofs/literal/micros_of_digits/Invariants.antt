use Rattle.std.proofs.Common.{◌++◌}
use Rattle.std.specs.Prelude.{replicate}
use Rattle.tql_value.proofs.DigitLemmas.{SpellsFront}
use Rattle.tql_value.proofs.literal.micros_of_digits.Given as goal

abbrev pub invariant-loop-place : goal.invariant-loop-place
invariant-loop-place l = SpellsFront l.micros l.place (l.digits ++ replicate 6 48)
