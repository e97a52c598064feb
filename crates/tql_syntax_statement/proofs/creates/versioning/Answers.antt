use Rattle.std.proofs.Common.{refl}
use Rattle.tql_syntax_grammar.specs.ReadingStatements.{versioning_at}
use Rattle.tql_syntax_expr.specs.Parsing.{itself}
use Rattle.tql_syntax_expr.proofs.Refused.{refused}
use Rattle.tql_syntax_statement.proofs.creates.versioning.Goals as goal

pub returns-in_err-expect_word-2 : goal.returns-in_err-expect_word-2
unfolding versioning_at
returns-in_err-expect_word-2 c =
    refused itself _ _ c.in_err-expect_word-2.field-0.0 _ c.from_residual-in_err-expect_word-2.ensures
    (λ n. rw (c.eat_word.ensures, c.if-eat_word.true, c.in_ok-expect_word.ensures, c.in_err-expect_word-2.ensures n)
    refl)

pub returns-then-eat_word : goal.returns-then-eat_word
unfolding versioning_at
returns-then-eat_word c =
    rw (c.eat_word.ensures, c.if-eat_word.true, c.in_ok-expect_word.ensures, c.in_ok-expect_word-2.ensures) refl
