-- Each turn of the list loop reads what the step reads; the last turn leaves no item to read.
use Rattle.std.proofs.Common.{rules, arith}
use Rattle.std.proofs.lemmas.Grind.{common_steps}
use Rattle.tql_syntax_grammar.specs.Outcome.{repeated}
use Rattle.tql_syntax_expr.proofs.Turns.{one_more_item, no_more_items}
use Rattle.tql_syntax_expr.proofs.lists.extended.Goals as goal

pub returns-in_err-item : goal.returns-in_err-item
unfolding repeated
returns-in_err-item g c =
    let e = one_more_item _ _ _ _ _ _ c.loop-turn-test.true c.loop-turn.invariant in
    first_of (search rules, grind (arith, common_steps))

pub returns-in-None : goal.returns-in-None
unfolding repeated
returns-in-None g c =
    let e = one_more_item _ _ _ _ _ _ c.loop-turn-test.true c.loop-turn.invariant in
    first_of (search rules, grind (arith, common_steps))

pub loop-turn-preserved : goal.loop-turn-preserved
unfolding repeated
loop-turn-preserved g c =
    let e = one_more_item _ _ _ _ _ _ c.loop-turn-test.true c.loop-turn.invariant in
    first_of (search rules, grind (arith, common_steps))

pub returns : goal.returns
unfolding repeated
returns g c =
    let e = no_more_items _ _ _ _ _ _ c.loop-turn-test.false c.loop-turn.invariant in
    first_of (search rules, grind (arith, common_steps))
