use Rattle.std.proofs.Common.{◌≡◌, sym, ap, subst, ◌∙◌, List, Option, Some, None}
use Rattle.std.specs.Prelude.{option_map, ℕ}
use Rattle.tql_spec.specs.Token.{Token}
use Rattle.tql_syntax_grammar.specs.Outcome.{Read, name_at}
use Rattle.tql_syntax_grammar.specs.ReadingExpressions.{expr_at}
use Rattle.tql_syntax_tree.specs.Expressions.{digits_of, content_of, name_of}
use Rattle.tql_spec.specs.Syntax.{Unsigned}
use Rattle.tql_syntax_expr.specs.Alone.{alone}
use Rattle.tql_syntax_expr.specs.Parsing.{Eats}
use Rattle.tql_syntax_expr.proofs.AloneLaws.{takes_number, takes_text, takes_name, text_behind, neither}
use Rattle.tql_syntax_expr.proofs.Views.{number_view, text_view, column_view}
use Rattle.tql_syntax_expr.proofs.alone.operand.Goals as goal

pub returns-in-Some : goal.returns-in-Some
returns-in-Some c = λ depth.
    takes_number (expr_at depth) c.args.tokens.now c.eat_number.new.self c.in-Some.digits.now
    (sym c.goes_on_second.ensures ∙ c.if-goes_on_second.false)
    (c.eat_number.ensures ∙ ap (λ r. (option_map digits_of r, c.eat_number.new.self)) c.in-Some.is)
    ∙ ap (λ p. Read (alone (Unsigned p)) c.eat_number.new.self) (sym (number_view _ c.in-Some.digits))

pub returns-in-Some-eat_quote : goal.returns-in-Some-eat_quote
returns-in-Some-eat_quote c = λ depth.
    takes_text (expr_at depth) c.args.tokens.now c.eat_quote.new.self (content_of c.in-Some-eat_quote.text)
    (sym c.goes_on_second.ensures ∙ c.if-goes_on_second.false)
    (text_behind _ _ _ _
    (c.eat_number.ensures ∙ ap (λ r. (option_map digits_of r, c.eat_number.new.self)) c.in_default.is)
    (c.eat_quote.ensures ∙ ap (λ r. (option_map content_of r, c.eat_quote.new.self)) c.in-Some-eat_quote.is))
    ∙ ap (λ p. Read (alone (Unsigned p)) c.eat_quote.new.self) (sym (text_view _ c.in-Some-eat_quote.text))

pub returns-in-Some-eat_name : goal.returns-in-Some-eat_name
returns-in-Some-eat_name c = λ depth.
    let left : c.eat_quote.new.self ≡ c.args.tokens.now =
    neither _ _ _
    (c.eat_number.ensures ∙ ap (λ r. (option_map digits_of r, c.eat_number.new.self)) c.in_default.is)
    (c.eat_quote.ensures ∙ ap (λ r. (option_map content_of r, c.eat_quote.new.self)) c.in_default-eat_quote.is) in
    takes_name (expr_at depth) c.args.tokens.now c.eat_name.new.self (name_of c.in-Some-eat_name.name)
    (sym c.goes_on_second.ensures ∙ c.if-goes_on_second.false)
    (subst (λ (ts : List Token). Eats name_of name_at ts (Some c.in-Some-eat_name.name) c.eat_name.new.self) left
    (subst (λ r. Eats name_of name_at c.eat_quote.new.self r c.eat_name.new.self) c.in-Some-eat_name.is
    c.eat_name.ensures))
    ∙ ap (λ p. Read (alone (Unsigned p)) c.eat_name.new.self) (sym (column_view _ c.in-Some-eat_name.name))
