use Rattle.std.proofs.Common.{rules, arith}
use Rattle.std.proofs.lemmas.Grind.{common_steps}
use Rattle.tql_syntax_grammar.specs.Outcome.{repeated}
use Rattle.tql_syntax_grammar.specs.ReadingExpressions.{next_test, next_conj}
use Rattle.tql_syntax_expr.proofs.Turns.{one_more_item, no_more_items}
use Rattle.tql_syntax_cond.proofs.conditions.+conditions.Goals as goal

pub factors-returns-then-not-eat_word : goal.factors-returns-then-not-eat_word
unfolding repeated next_test
factors-returns-then-not-eat_word t c =
    let e = one_more_item _ _ _ _ _ _ c.loop-turn-test.true c.loop-turn.invariant in
    first_of (search rules, grind (arith, common_steps))

pub factors-returns-in_err-factor : goal.factors-returns-in_err-factor
unfolding repeated next_test
factors-returns-in_err-factor t c =
    let e = one_more_item _ _ _ _ _ _ c.loop-turn-test.true c.loop-turn.invariant in
    first_of (search rules, grind (arith, common_steps))

pub factors-loop-turn-preserved : goal.factors-loop-turn-preserved
unfolding repeated next_test
factors-loop-turn-preserved t c =
    let e = one_more_item _ _ _ _ _ _ c.loop-turn-test.true c.loop-turn.invariant in
    first_of (search rules, grind (arith, common_steps))

pub factors-returns : goal.factors-returns
unfolding repeated next_test
factors-returns t c =
    let e = no_more_items _ _ _ _ _ _ c.loop-turn-test.false c.loop-turn.invariant in
    first_of (search rules, grind (arith, common_steps))

pub conjs-returns-then-not-eat_word : goal.conjs-returns-then-not-eat_word
unfolding repeated next_conj
conjs-returns-then-not-eat_word t c =
    let e = one_more_item _ _ _ _ _ _ c.loop-turn-test.true c.loop-turn.invariant in
    first_of (search rules, grind (arith, common_steps))

pub conjs-returns-in_err-conj : goal.conjs-returns-in_err-conj
unfolding repeated next_conj
conjs-returns-in_err-conj t c =
    let e = one_more_item _ _ _ _ _ _ c.loop-turn-test.true c.loop-turn.invariant in
    first_of (search rules, grind (arith, common_steps))

pub conjs-loop-turn-preserved : goal.conjs-loop-turn-preserved
unfolding repeated next_conj
conjs-loop-turn-preserved t c =
    let e = one_more_item _ _ _ _ _ _ c.loop-turn-test.true c.loop-turn.invariant in
    first_of (search rules, grind (arith, common_steps))

pub conjs-returns : goal.conjs-returns
unfolding repeated next_conj
conjs-returns t c =
    let e = no_more_items _ _ _ _ _ _ c.loop-turn-test.false c.loop-turn.invariant in
    first_of (search rules, grind (arith, common_steps))
