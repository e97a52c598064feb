-- The words that continue an expression as a test, and the rest of the test after each word.
use Rattle.std.specs.Prelude.{false, codes, Option, Some, None}
use Rattle.tql_spec.specs.Token.{Word}
use Rattle.tql_spec.specs.Syntax.{Sum, Test}
use Rattle.tql_syntax_grammar.specs.Outcome.{Parser, found, into, if_front}
use Rattle.tql_syntax_grammar.specs.ReadingExpressions.{Tested, WholeTest, null_test_at, denied_over, between_over}
use Rattle.tql_syntax_grammar.specs.ReadingExpressions.{in_over}
use Rattle.tql_syntax_grammar.specs.ReadingExpressions.{period_test_over, as_named}
use Rattle.tql_syntax_test.specs.declared.predicates.TestWord.{TestWord}
use Rattle.tql_syntax_test.specs.declared.predicates.TestWord.TheVariants as word

-- the word, or none
abbrev pub test_word_at : Parser (Option TestWord)
test_word_at =
    if_front (Word (codes "IS")) (found (Some word.Is))
    (if_front (Word (codes "NOT")) (found (Some word.Not))
    (if_front (Word (codes "BETWEEN")) (found (Some word.Between))
    (if_front (Word (codes "IN")) (found (Some word.In)) (found None))))

-- the rest of the test that begins with this expression and the word
abbrev pub worded_over : Parser Sum → TestWord → Sum → Parser Test
worded_over inner word.Is e ts = null_test_at e ts
worded_over inner word.Not e ts = denied_over inner e ts
worded_over inner word.Between e ts = between_over inner false e ts
worded_over inner word.In e ts = in_over inner false e ts

-- after this expression and the word: the rest of the test; without a word, a relation, CONTAINS or nothing
abbrev pub behind_word_over : Parser Sum → Sum → Option TestWord → Parser Tested
behind_word_over inner e (Some w) ts = into WholeTest (worded_over inner w e ts)
behind_word_over inner e None ts = period_test_over inner e (as_named e) ts
