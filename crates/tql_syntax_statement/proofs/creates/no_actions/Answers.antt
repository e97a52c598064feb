use Rattle.std.proofs.Common.{rules, arith}
use Rattle.std.proofs.lemmas.Grind.{common_steps}
use Rattle.tql_syntax_grammar.specs.ReadingStatements.{no_actions_from}
use Rattle.tql_syntax_expr.proofs.Turns.{one_more, no_more}
use Rattle.tql_syntax_statement.proofs.creates.no_actions.Goals as goal

pub returns-then-not-eat_word : goal.returns-then-not-eat_word
unfolding no_actions_from
returns-then-not-eat_word c =
    let e = one_more (λ n. no_actions_from n c.loop-turn.tokens) _ _ c.loop-turn._turn c.loop-turn-test.true
    c.loop-turn.invariant in
    first_of (search rules, grind (arith, common_steps))

pub returns-in_err-no_action : goal.returns-in_err-no_action
unfolding no_actions_from
returns-in_err-no_action c =
    let e = one_more (λ n. no_actions_from n c.loop-turn.tokens) _ _ c.loop-turn._turn c.loop-turn-test.true
    c.loop-turn.invariant in
    first_of (search rules, grind (arith, common_steps))

pub loop-turn-preserved : goal.loop-turn-preserved
unfolding no_actions_from
loop-turn-preserved c =
    let e = one_more (λ n. no_actions_from n c.loop-turn.tokens) _ _ c.loop-turn._turn c.loop-turn-test.true
    c.loop-turn.invariant in
    first_of (search rules, grind (arith, common_steps))

pub returns : goal.returns
unfolding no_actions_from
returns c =
    let e = no_more (λ n. no_actions_from n c.loop-turn.tokens) _ _ c.loop-turn._turn c.loop-turn-test.false
    c.loop-turn.invariant in
    first_of (search rules, grind (arith, common_steps))
