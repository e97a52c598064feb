use Rattle.std.specs.Prelude.{option_map}
use Rattle.std.proofs.Common.{sym, ap, ◌∙◌}
use Rattle.tql_syntax_tree.specs.Expressions.{digits_of, content_of}
use Rattle.tql_syntax_expr.proofs.AloneLaws.{text_behind}
use Rattle.tql_syntax_statement.proofs.LoneCells.{number_cell, text_cell}
use Rattle.tql_syntax_statement.proofs.changes.lone_literal.Goals as goal

pub returns-in-Some : goal.returns-in-Some
returns-in-Some c =
    number_cell c.args.tokens.now c.eat_number.new.self (digits_of c.in-Some.digits)
    (sym c.goes_on_second.ensures ∙ c.if-goes_on_second.false)
    (c.eat_number.ensures ∙ ap (λ r. (option_map digits_of r, c.eat_number.new.self)) c.in-Some.is)

pub returns-in-Some-eat_quote : goal.returns-in-Some-eat_quote
returns-in-Some-eat_quote c =
    text_cell c.args.tokens.now c.eat_quote.new.self (content_of c.in-Some-eat_quote.text)
    (sym c.goes_on_second.ensures ∙ c.if-goes_on_second.false)
    (text_behind _ _ _ _
    (c.eat_number.ensures ∙ ap (λ r. (option_map digits_of r, c.eat_number.new.self)) c.in_default.is)
    (c.eat_quote.ensures ∙ ap (λ r. (option_map content_of r, c.eat_quote.new.self)) c.in-Some-eat_quote.is))
