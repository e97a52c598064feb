use Rattle.std.proofs.Common.{rules, arith}
use Rattle.std.proofs.lemmas.Grind.{common_steps}
use Rattle.tql_syntax_statement.specs.ChangeEnds.{rows_at}
use Rattle.tql_syntax_statement.proofs.changes.rows.Goals as goal

pub returns-then-eat_word : goal.returns-then-eat_word
unfolding rows_at
returns-then-eat_word c = λ n cs. let read =
    c.values.ensures n cs in first_of (search rules, grind (arith, common_steps))
