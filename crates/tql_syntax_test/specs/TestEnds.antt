-- The rest of a test rule after its first part.
use Rattle.tql_spec.specs.Syntax.{Sum, Operand}
use Rattle.tql_syntax_grammar.specs.Outcome.{Parser, ◌>>=◌, into}
use Rattle.tql_syntax_grammar.specs.ReadingExpressions.{Tested, WholeTest, related_over, wanted_test}

-- the rest of a test after the operand that it begins with
unfoldable pub operand_end : Parser Sum → Operand → Parser Tested
operand_end inner x ts = related_over inner x ts >>= λ o a. into WholeTest (wanted_test o a)
