use Rattle.std.proofs.Common.{rules, arith, subst, List}
use Rattle.std.proofs.lemmas.Grind.{common_steps}
use Rattle.tql_spec.specs.Token.{Token}
use Rattle.tql_syntax_grammar.specs.Outcome.{repeated}
use Rattle.tql_syntax_grammar.specs.ReadingExpressions.{next_factor, expr_at, term_over, sum_over}
use Rattle.tql_syntax_tree.specs.Expressions.{term_of, signed_of}
use Rattle.tql_syntax_expr.specs.Alone.{alone}
use Rattle.tql_syntax_expr.specs.Parsing.{Reads}
use Rattle.tql_syntax_expr.proofs.Turns.{one_more_item, no_more_items}
use Rattle.tql_syntax_grammar.proofs.Levels.{expr_level}
use Rattle.tql_syntax_expr.proofs.AloneLaws.{not_taken}
use Rattle.tql_syntax_expr.proofs.expressions.+expressions.Goals as goal

pub expr-returns : goal.expr-returns
expr-returns t c =
    let e = expr_level c.args.depth c.args.tokens.now c.if-depth-eq0.false in
    first_of (search rules, grind (arith, common_steps))

pub factors-returns-then-not-eat_symbol : goal.factors-returns-then-not-eat_symbol
unfolding repeated next_factor
factors-returns-then-not-eat_symbol t c =
    let e = one_more_item _ _ _ _ _ _ c.loop-turn-test.true c.loop-turn.invariant in
    first_of (search rules, grind (arith, common_steps))

pub factors-returns-in_err-signed : goal.factors-returns-in_err-signed
unfolding repeated next_factor
factors-returns-in_err-signed t c =
    let e = one_more_item _ _ _ _ _ _ c.loop-turn-test.true c.loop-turn.invariant in
    first_of (search rules, grind (arith, common_steps))

pub factors-loop-turn-preserved : goal.factors-loop-turn-preserved
unfolding repeated next_factor
factors-loop-turn-preserved t c =
    let e = one_more_item _ _ _ _ _ _ c.loop-turn-test.true c.loop-turn.invariant in
    first_of (search rules, grind (arith, common_steps))

pub factors-returns : goal.factors-returns
unfolding repeated next_factor
factors-returns t c =
    let e = no_more_items _ _ _ _ _ _ c.loop-turn-test.false c.loop-turn.invariant in
    first_of (search rules, grind (arith, common_steps))

pub terms-returns-in_err-term : goal.terms-returns-in_err-term
unfolding repeated
terms-returns-in_err-term t c =
    let e = one_more_item _ _ _ _ _ _ c.loop-turn-test.true c.loop-turn.invariant in
    first_of (search rules, grind (arith, common_steps))

pub terms-returns-in-None : goal.terms-returns-in-None
unfolding repeated
terms-returns-in-None t c =
    let e = one_more_item _ _ _ _ _ _ c.loop-turn-test.true c.loop-turn.invariant in
    first_of (search rules, grind (arith, common_steps))

pub terms-loop-turn-preserved : goal.terms-loop-turn-preserved
unfolding repeated
terms-loop-turn-preserved t c =
    let e = one_more_item _ _ _ _ _ _ c.loop-turn-test.true c.loop-turn.invariant in
    first_of (search rules, grind (arith, common_steps))

pub terms-returns : goal.terms-returns
unfolding repeated
terms-returns t c =
    let e = no_more_items _ _ _ _ _ _ c.loop-turn-test.false c.loop-turn.invariant in
    first_of (search rules, grind (arith, common_steps))

pub sum-returns-in_err-first-in-None : goal.sum-returns-in_err-first-in-None
unfolding sum_over
sum-returns-in_err-first-in-None t c =
    let same = not_taken (λ s. alone (signed_of s)) (sum_over (expr_at c.args.depth)) _ c.signed_alone.result _
    c.in-None.is (c.signed_alone.ensures c.args.depth) in
    let first = subst (λ (ts : List Token). Reads term_of (term_over (expr_at c.args.depth) ts) c.term.result
    c.term.new.tokens) same c.term.ensures in
    first_of (search rules, grind (arith, common_steps))

pub sum-returns-in_ok-first-in-None : goal.sum-returns-in_ok-first-in-None
unfolding sum_over
sum-returns-in_ok-first-in-None t c =
    let same = not_taken (λ s. alone (signed_of s)) (sum_over (expr_at c.args.depth)) _ c.signed_alone.result _
    c.in-None.is (c.signed_alone.ensures c.args.depth) in
    let first = subst (λ (ts : List Token). Reads term_of (term_over (expr_at c.args.depth) ts) c.term.result
    c.term.new.tokens) same c.term.ensures in
    first_of (search rules, grind (arith, common_steps))
