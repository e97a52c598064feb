-- The whole list is what the remaining turns read, appended to the items found so far.
use Rattle.std.proofs.Common.{◌≡◌, ◌-◌, map}
use Rattle.tql_syntax_grammar.specs.Outcome.{more, repeated}
use Rattle.tql_syntax_expr.proofs.lists.extended.Given as goal

abbrev pub invariant-loop-turn : goal.invariant-loop-turn
invariant-loop-turn g l =
    let step = g.S.Step.step l.fn.step in
    let view = map g.S.Step.view in
    more step (view l.fn.found.items) l.fn.tokens ≡ repeated step (l._turn-end - l._turn) (view l.found.items) l.tokens
