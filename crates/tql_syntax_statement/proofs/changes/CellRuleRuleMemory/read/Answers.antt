use Rattle.std.specs.Prelude.{List}
use Rattle.std.proofs.Common.{sym, subst, ◌∙◌}
use Rattle.tql_spec.specs.Token.{Token}
use Rattle.tql_spec.specs.Syntax as tree
use Rattle.tql_syntax_grammar.specs.Outcome.{Outcome}
use Rattle.tql_syntax_grammar.specs.ReadingStatements.{cell_at}
use Rattle.tql_syntax_tree.specs.Statements.{cell_of}
use Rattle.tql_syntax_expr.specs.Parsing.{Reads}
use Rattle.tql_syntax_expr.proofs.AloneLaws.{not_taken}
use Rattle.tql_syntax_statement.proofs.LoneCells.{reads_date}
use Rattle.tql_syntax_statement.proofs.changes.CellRuleRuleMemory.read.Goals as goal

pub returns-then-begins_date : goal.returns-then-begins_date
returns-then-begins_date c =
    let left = not_taken cell_of cell_at _ c.lone_literal.result _ c.in_default.is c.lone_literal.ensures in
    subst (λ (ts : List Token). Reads cell_of (cell_at ts) c.date.result c.date.new.tokens) left
    (subst (λ (o : Outcome tree.CellTree). Reads cell_of o c.date.result c.date.new.tokens)
    (sym (reads_date c.lone_literal.new.tokens (sym c.begins_date.ensures ∙ c.if-begins_date.true))) c.date.ensures)
