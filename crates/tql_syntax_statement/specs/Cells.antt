-- Cells of VALUES or SET that are a DATE literal.
use Rattle.std.specs.Prelude.{Bool, ◌&&◌, not, List, codes}
use Rattle.tql_spec.specs.Token.{Token, Word}
use Rattle.tql_spec.specs.Syntax.{CellTree, DateLiteral}
use Rattle.tql_syntax_grammar.specs.Outcome.{Parser, ◌>>=◌, into, keyword, quote_at, begins}
use Rattle.tql_syntax_expr.specs.Alone.{goes_on_third}
use Rattle.tql_syntax_tree.specs.Statements.{literal_cell}

-- whether DATE is in front, and an expression ends before the third token
abbrev pub begins_date : List Token → Bool
begins_date ts = begins (Word (codes "DATE")) ts && not (goes_on_third ts)

-- a DATE literal
abbrev pub date_cell : Parser CellTree
date_cell ts = keyword (codes "DATE") ts >>= λ _ us. into (λ t. literal_cell (DateLiteral t)) (quote_at us)
