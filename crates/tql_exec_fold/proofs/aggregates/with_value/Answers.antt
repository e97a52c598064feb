-- A number of 64 bits is added.
use Rattle.std.proofs.Common.{arith, pos, ◌≤ℤ◌, ◌<ℤ◌, ◌^◌}
use Rattle.std.proofs.lemmas.Int.{ints}
use Rattle.std.specs.Prelude.{neg_ℤ, Some}
use Rattle.tql_exec_fold.proofs.Bests.{next_within}
use Rattle.tql_exec_fold.proofs.aggregates.with_value.Goals as goal

pub returns-in-Int-clause-within : goal.returns-in-Int-clause-within
returns-in-Int-clause-within c = λ n h.
    let low : neg_ℤ (pos (2 ^ 63)) ≤ℤ c.from.result = omega (arith, ints) in
    let high : c.from.result <ℤ pos (2 ^ 63) = omega (arith, ints) in
    next_within n (Some c.args.sum) c.from.result _ h low high (omega (arith, ints))
