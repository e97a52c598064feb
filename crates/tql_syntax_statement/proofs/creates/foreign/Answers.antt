use Rattle.std.proofs.Common.{refl}
use Rattle.tql_syntax_grammar.specs.ReadingStatements.{foreign_at}
use Rattle.tql_syntax_tree.specs.Statements.{constraint_of}
use Rattle.tql_syntax_expr.proofs.Refused.{refused}
use Rattle.tql_syntax_statement.proofs.creates.foreign.Goals as goal

pub returns-in_err-expect_word-2 : goal.returns-in_err-expect_word-2
unfolding foreign_at
returns-in_err-expect_word-2 c =
    refused constraint_of _ _ c.in_err-expect_word-2.field-0.0 _ c.from_residual-in_err-expect_word-2.ensures
    (λ n. rw (c.in_ok-expect_word.ensures, c.in_ok-child.ensures, c.in_err-expect_word-2.ensures n) refl)

pub returns-in_err-table : goal.returns-in_err-table
unfolding foreign_at
returns-in_err-table c =
    refused constraint_of _ _ c.in_err-table.field-0.0 _ c.from_residual-in_err-table.ensures
    (λ n. rw (
      c.in_ok-expect_word.ensures,
      c.in_ok-child.ensures,
      c.in_ok-expect_word-2.ensures,
      c.in_err-table.ensures n,
    ) refl)

pub returns-in_err-parent : goal.returns-in_err-parent
unfolding foreign_at
returns-in_err-parent c =
    refused constraint_of _ _ c.in_err-parent.field-0.0 _ c.from_residual-in_err-parent.ensures
    (λ n. rw (
      c.in_ok-expect_word.ensures,
      c.in_ok-child.ensures,
      c.in_ok-expect_word-2.ensures,
      c.in_ok-table.ensures,
      c.in_err-parent.ensures n,
    ) refl)

pub returns-in_err-no_actions : goal.returns-in_err-no_actions
unfolding foreign_at
returns-in_err-no_actions c =
    refused constraint_of _ _ c.in_err-no_actions.field-0.0 _ c.from_residual-in_err-no_actions.ensures
    (λ n. rw (
      c.in_ok-expect_word.ensures,
      c.in_ok-child.ensures,
      c.in_ok-expect_word-2.ensures,
      c.in_ok-table.ensures,
      c.in_ok-parent.ensures,
      c.in_err-no_actions.ensures n,
    ) refl)

pub returns : goal.returns
unfolding foreign_at
returns c = rw (
  c.in_ok-expect_word.ensures,
  c.in_ok-child.ensures,
  c.in_ok-expect_word-2.ensures,
  c.in_ok-table.ensures,
  c.in_ok-parent.ensures,
  c.in_ok-no_actions.ensures,
) refl
