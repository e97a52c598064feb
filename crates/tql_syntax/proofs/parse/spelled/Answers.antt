use Rattle.std.proofs.Common.{map, arith, ◌≤◌}
use Rattle.tql_spec.specs.Token.{depth}
use Rattle.tql_lex.specs.Tokens.{token_of}
use Rattle.tql_syntax_tree.specs.Trees.{tree_of}
use Rattle.tql_syntax.proofs.Outcomes.{refused, left_over, spelled}
use Rattle.tql_syntax.proofs.parse.spelled.Goals as goal

pub returns-in_err-tree : goal.returns-in_err-tree
returns-in_err-tree c =
    let shallow : depth (map token_of c.args.tokens.now) ≤ 64 = omega arith in
    refused (map token_of c.args.tokens.now) c.from_residual.result c.in_err-tree.field-0.0 shallow
    (rw c.new-cursor.ensures at c.in_err-tree.ensures) c.from_residual.ensures.1

pub returns-then-left-gt0 : goal.returns-then-left-gt0
returns-then-left-gt0 c =
    let read = rw c.new-cursor.ensures at c.in_ok-tree.ensures in (
      omega arith,
      left_over (map token_of c.args.tokens.now) (tree_of c.in_ok-tree.tree) c.statement_tree.new.tokens
          read (omega arith),
    )

pub returns : goal.returns
returns c =
    let read = rw c.new-cursor.ensures at c.in_ok-tree.ensures in (
      omega arith,
      spelled (map token_of c.args.tokens.now) (tree_of c.in_ok-tree.tree) c.statement_tree.new.tokens
          read (omega arith),
    )
