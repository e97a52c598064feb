use Rattle.std.proofs.Common.{ap, ◌∙◌}
use Rattle.tql_lex.specs.Tokens.{token_of}
use Rattle.tql_syntax_expr.specs.Alone.{goes_on_third}
use Rattle.tql_syntax_expr.proofs.Fronts.{third_is}
use Rattle.tql_syntax_expr.proofs.cursor.Cursor.goes_on_third.Goals as goal

pub returns-in-len3-up : goal.returns-in-len3-up
returns-in-len3-up c =
    c.goes_on.ensures ∙ third_is token_of c.self.inside.rest.now _ c.in-len3-up.len_at_least
    ∙ ap goes_on_third c.self.view_is
