use Rattle.std.proofs.Common.{◌≡◌, ◌+◌, ◌-◌, ◌*◌, [], map}
use Rattle.tql_syntax_grammar.specs.Outcome.{more, repeated}
use Rattle.tql_syntax_grammar.specs.ReadingExpressions.{next_factor, next_term, expr_at}
use Rattle.tql_syntax_tree.specs.Expressions.{signed_of, added_of}
use Rattle.tql_syntax_expr.proofs.expressions.+expressions.Given as goal

abbrev pub decreases-expr : goal.decreases-expr
decreases-expr l = 12 * l.depth

abbrev pub decreases-inside : goal.decreases-inside
decreases-inside l = 12 * l.depth + 1

abbrev pub decreases-count : goal.decreases-count
decreases-count l = 12 * l.depth + 2

abbrev pub decreases-primary : goal.decreases-primary
decreases-primary l = 12 * l.depth + 3

abbrev pub decreases-signed : goal.decreases-signed
decreases-signed l = 12 * l.depth + 4

abbrev pub decreases-factors : goal.decreases-factors
decreases-factors l = 12 * l.depth + 5

abbrev pub decreases-term_behind : goal.decreases-term_behind
decreases-term_behind l = 12 * l.depth + 6

abbrev pub decreases-term : goal.decreases-term
decreases-term l = 12 * l.depth + 7

abbrev pub decreases-next_term : goal.decreases-next_term
decreases-next_term l = 12 * l.depth + 8

abbrev pub decreases-terms : goal.decreases-terms
decreases-terms l = 12 * l.depth + 9

abbrev pub decreases-expr_behind : goal.decreases-expr_behind
decreases-expr_behind l = 12 * l.depth + 10

abbrev pub decreases-sum : goal.decreases-sum
decreases-sum l = 12 * l.depth + 11

abbrev pub invariant-factors-loop-turn : goal.invariant-factors-loop-turn
invariant-factors-loop-turn l =
    more (next_factor (expr_at l.depth)) [] l.fn.tokens ≡ repeated (next_factor (expr_at l.depth))
    (l._turn-end - l._turn) (map signed_of l.found.items) l.tokens

abbrev pub invariant-terms-loop-turn : goal.invariant-terms-loop-turn
invariant-terms-loop-turn l =
    more (next_term (expr_at l.depth)) [] l.fn.tokens ≡ repeated (next_term (expr_at l.depth)) (l._turn-end - l._turn)
    (map added_of l.found.items) l.tokens
