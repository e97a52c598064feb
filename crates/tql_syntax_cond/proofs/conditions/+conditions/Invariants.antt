use Rattle.std.proofs.Common.{◌≡◌, ◌+◌, ◌-◌, ◌*◌, [], map}
use Rattle.tql_syntax_grammar.specs.Outcome.{more, repeated}
use Rattle.tql_syntax_grammar.specs.ReadingExpressions.{next_test, next_conj, expr_at, mixed_at}
use Rattle.tql_syntax_tree.specs.Conditions.{factor_of, conj_of}
use Rattle.tql_syntax_cond.proofs.conditions.+conditions.Given as goal

abbrev pub decreases-condition_or_expr : goal.decreases-condition_or_expr
decreases-condition_or_expr l = 12 * l.depth

abbrev pub decreases-opened : goal.decreases-opened
decreases-opened l = 12 * l.depth + 1

abbrev pub decreases-test_or_expr : goal.decreases-test_or_expr
decreases-test_or_expr l = 12 * l.depth + 2

abbrev pub decreases-test : goal.decreases-test
decreases-test l = 12 * l.depth + 3

abbrev pub decreases-factor : goal.decreases-factor
decreases-factor l = 12 * l.depth + 4

abbrev pub decreases-factors : goal.decreases-factors
decreases-factors l = 12 * l.depth + 5

abbrev pub decreases-conj_behind : goal.decreases-conj_behind
decreases-conj_behind l = 12 * l.depth + 6

abbrev pub decreases-conj : goal.decreases-conj
decreases-conj l = 12 * l.depth + 7

abbrev pub decreases-conjs : goal.decreases-conjs
decreases-conjs l = 12 * l.depth + 8

abbrev pub decreases-condition_behind : goal.decreases-condition_behind
decreases-condition_behind l = 12 * l.depth + 9

abbrev pub decreases-condition_from : goal.decreases-condition_from
decreases-condition_from l = 12 * l.depth + 10

abbrev pub decreases-condition_or_expr_over : goal.decreases-condition_or_expr_over
decreases-condition_or_expr_over l = 12 * l.depth + 11

abbrev pub invariant-factors-loop-turn : goal.invariant-factors-loop-turn
invariant-factors-loop-turn l =
    more (next_test (expr_at l.depth) (mixed_at l.depth)) [] l.fn.tokens ≡ repeated
    (next_test (expr_at l.depth) (mixed_at l.depth)) (l._turn-end - l._turn) (map factor_of l.found.items) l.tokens

abbrev pub invariant-conjs-loop-turn : goal.invariant-conjs-loop-turn
invariant-conjs-loop-turn l =
    more (next_conj (expr_at l.depth) (mixed_at l.depth)) [] l.fn.tokens ≡ repeated
    (next_conj (expr_at l.depth) (mixed_at l.depth)) (l._turn-end - l._turn) (map conj_of l.found.items) l.tokens
