use Rattle.std.proofs.Common.{◌≡◌, ◌-◌}
use Rattle.tql_syntax_grammar.specs.ReadingStatements.{no_actions, no_actions_from}
use Rattle.tql_syntax_statement.proofs.creates.no_actions.Given as goal

abbrev pub invariant-loop-turn : goal.invariant-loop-turn
invariant-loop-turn l = no_actions l.fn.tokens ≡ no_actions_from (l._turn-end - l._turn) l.tokens
