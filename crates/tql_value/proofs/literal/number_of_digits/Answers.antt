use Rattle.std.proofs.Common.{◌≡◌, true, get_or, arith}
use Rattle.std.proofs.lemmas.Bool.Decides.{nat_tests}
use Rattle.tql_spec.specs.Calendar.{is_digit}
use Rattle.tql_value.proofs.DigitLemmas.{SpellsFront-below, SpellsFront-more}
use Rattle.tql_value.proofs.literal.number_of_digits.Goals as goal

pub overflow_mul-number : goal.overflow_mul-number
overflow_mul-number c = let small =
    SpellsFront-below c.loop-byte.number c.loop-byte.byte-index 3 c.args.bytes.now (omega arith) c.loop-byte.invariant
    in omega arith

pub overflow_add-number : goal.overflow_add-number
overflow_add-number c = let small =
    SpellsFront-below c.loop-byte.number c.loop-byte.byte-index 3 c.args.bytes.now (omega arith) c.loop-byte.invariant
    in omega arith

pub loop-byte-preserved : goal.loop-byte-preserved
loop-byte-preserved c =
    let digit : is_digit (get_or c.args.bytes.now c.loop-byte.byte-index 0) ≡ true = grind (arith, nat_tests) in
    rw c.from.ensures (SpellsFront-more c.loop-byte.number c.loop-byte.byte-index c.args.bytes.now
    c.loop-byte-test.true c.loop-byte.invariant digit)
