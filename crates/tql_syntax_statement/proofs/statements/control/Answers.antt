use Rattle.std.proofs.Common.{refl}
use Rattle.tql_syntax_grammar.specs.ReadingStatements.{control_at}
use Rattle.tql_syntax_tree.specs.Statements.{statement_of}
use Rattle.tql_syntax_expr.proofs.Refused.{refused}
use Rattle.tql_syntax_statement.proofs.statements.control.Goals as goal

pub returns-in_err-expect_word : goal.returns-in_err-expect_word
unfolding control_at
returns-in_err-expect_word c =
    refused statement_of _ _ c.in_err-expect_word.field-0.0 _ c.from_residual.ensures
    (λ n. rw (c.eat_word.ensures, c.if-eat_word.true, c.in_err-expect_word.ensures n) refl)

pub returns-then-eat_word : goal.returns-then-eat_word
unfolding control_at
returns-then-eat_word c = rw (c.eat_word.ensures, c.if-eat_word.true, c.in_ok-expect_word.ensures) refl
