use Rattle.std.proofs.Common.{◌<◌, arith, rules}
use Rattle.std.proofs.lemmas.Grind.{common_steps}
use Rattle.tql_store.proofs.Places.{stand-below, not_taken}
use Rattle.tql_store.proofs.tables.free_table.Goals as goal

pub overflow_cast-number : goal.overflow_cast-number
overflow_cast-number c =
    let low = stand-below c.args.places.now c.free_number-number.result c.free_number-number.ensures.before
    c.free_number-number.ensures.within in
    first_of (search rules, grind (arith, common_steps))

pub unreachable-requires : goal.unreachable-requires
unreachable-requires c =
    let low = stand-below c.args.places.now c.free_number-number.result c.free_number-number.ensures.before
    c.free_number-number.ensures.within in
    let small : c.free_number-number.result < 1000 = omega arith in
    first_of (search rules, grind (arith, common_steps))

pub returns-clause-free : goal.returns-clause-free
returns-clause-free c =
    let free = not_taken _ c.free_number-number.ensures.free in
    first_of (search rules, grind (arith, common_steps))
