use Rattle.std.proofs.Common.{◌++◌, arith}
use Rattle.std.specs.Prelude.{replicate}
use Rattle.tql_value.proofs.DigitLemmas.{SpellsFront-below}
use Rattle.tql_value.proofs.literal.micros_of_digits.Goals as goal

pub overflow_mul-micros : goal.overflow_mul-micros
overflow_mul-micros c = let small =
    SpellsFront-below c.loop-place.micros c.loop-place.place 5 (c.args.digits.now ++ replicate 6 48) (omega arith)
    c.loop-place.invariant in omega arith

pub overflow_add-micros : goal.overflow_add-micros
overflow_add-micros c = let small =
    SpellsFront-below c.loop-place.micros c.loop-place.place 5 (c.args.digits.now ++ replicate 6 48) (omega arith)
    c.loop-place.invariant in omega arith
