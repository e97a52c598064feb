-- Reading the rest of a test by its first word.
use Rattle.std.specs.Prelude.{◌≡◌, refl, Bool, true, false, if◌then◌else◌, List, codes, Option, Some, None}
use Rattle.tql_spec.specs.Token.{Token, Word}
use Rattle.tql_spec.specs.Syntax.{Sum}
use Rattle.tql_syntax_grammar.specs.Outcome.{Outcome, Parser, ◌>>=◌, found, into, eat, if_front}
use Rattle.tql_syntax_grammar.specs.ReadingExpressions.{Tested, WholeTest, word_test_over, null_test_at, denied_over}
use Rattle.tql_syntax_grammar.specs.ReadingExpressions.{between_over, in_over, period_test_over, as_named}
use Rattle.tql_syntax_test.specs.TestWords.{test_word_at, behind_word_over}
use Rattle.tql_syntax_test.specs.declared.predicates.TestWord.{TestWord}
use Rattle.tql_syntax_test.specs.declared.predicates.TestWord.TheVariants as word

-- a choice between two outcomes, each continued by `k`
choice : {A B : Type 0} (k : A → Parser B) (b : Bool) (x y : Outcome A) (u v : Outcome B)
    → u ≡ (x >>= k) → v ≡ (y >>= k) → (if b then u else v) ≡ ((if b then x else y) >>= k)
choice k true x y u v p q = p
choice k false x y u v p q = q

-- the same for two rules, chosen by the token in front
front : {A B : Type 0} (k : A → Parser B) (t : Token) (p q : Parser A) (f g : Parser B)
    → ((us : List Token) → f us ≡ (p us >>= k)) → ((us : List Token) → g us ≡ (q us >>= k))
    → (ts : List Token) → if_front t f g ts ≡ (if_front t p q ts >>= k)
front k t p q f g h i ts =
    choice k (eat t ts).0 (p (eat t ts).1) (q (eat t ts).1) (f (eat t ts).1) (g (eat t ts).1) (h (eat t ts).1)
    (i (eat t ts).1)

-- the alternatives after the first one, of the words and of the tests
abbrev words_in : Parser (Option TestWord)
words_in = if_front (Word (codes "IN")) (found (Some word.In)) (found None)

abbrev words_between : Parser (Option TestWord)
words_between = if_front (Word (codes "BETWEEN")) (found (Some word.Between)) words_in

abbrev words_not : Parser (Option TestWord)
words_not = if_front (Word (codes "NOT")) (found (Some word.Not)) words_between

abbrev tests_in : Parser Sum → Sum → Parser Tested
tests_in inner e = if_front (Word (codes "IN")) (λ us. into WholeTest (in_over inner false e us))
    (period_test_over inner e (as_named e))

abbrev tests_between : Parser Sum → Sum → Parser Tested
tests_between inner e =
    if_front (Word (codes "BETWEEN")) (λ us. into WholeTest (between_over inner false e us)) (tests_in inner e)

abbrev tests_not : Parser Sum → Sum → Parser Tested
tests_not inner e = if_front (Word (codes "NOT")) (λ us. into WholeTest (denied_over inner e us))
    (tests_between inner e)

pub by_word : (inner : Parser Sum) (e : Sum) (ts : List Token)
    → word_test_over inner e ts ≡ (test_word_at ts >>= behind_word_over inner e)
unfolding word_test_over
by_word inner e =
    let k = behind_word_over inner e in
    front k (Word (codes "IS")) (found (Some word.Is)) words_not (λ us. into WholeTest (null_test_at e us))
    (tests_not inner e) (λ us. refl)
    (front k (Word (codes "NOT")) (found (Some word.Not)) words_between
    (λ us. into WholeTest (denied_over inner e us)) (tests_between inner e) (λ us. refl)
    (front k (Word (codes "BETWEEN")) (found (Some word.Between)) words_in
    (λ us. into WholeTest (between_over inner false e us)) (tests_in inner e) (λ us. refl)
    (front k (Word (codes "IN")) (found (Some word.In)) (found None)
    (λ us. into WholeTest (in_over inner false e us)) (period_test_over inner e (as_named e)) (λ us. refl)
    (λ us. refl))))
