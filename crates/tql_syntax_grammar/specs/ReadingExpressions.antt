-- Reading expressions and conditions. A number bounds how deep parentheses may nest; the number of tokens is always
-- enough.
use Rattle.std.specs.Prelude.{ℕ, zero, suc, Bool, true, false, ◌&&◌, ◌||◌, if◌then◌else◌, List, [], ◌∷◌, codes}
use Rattle.std.specs.Prelude.{length, Option, Some, None}
use Rattle.tql_spec.specs.Datum.{Comparison, Equals, Differs, Below, AtMost, Above, AtLeast}
use Rattle.tql_spec.specs.Period.{Relation, Overlaps, SameAs, Precedes, Succeeds, ImmediatelyPrecedes}
use Rattle.tql_spec.specs.Period.{ImmediatelySucceeds}
use Rattle.tql_spec.specs.Expression.{Function, Count, Min, Max}
use Rattle.tql_spec.specs.Expression as bound
use Rattle.tql_spec.specs.Token.{Token, Word, Number, Quote, Sign, Open, Close, Comma, Dot, PlusSign, MinusSign, Star}
use Rattle.tql_spec.specs.Token.{EqualSign, UnequalSign, LessSign, AtMostSign, MoreSign, AtLeastSign}
use Rattle.tql_spec.specs.Syntax.{Named, Sum, Product, NoTerm, Terms, NoFactor, Factors, Signed, Unsigned, Positive}
use Rattle.tql_spec.specs.Syntax.{Negative, Primary, NumberLiteral, TextLiteral, DateLiteral, TimestampLiteral}
use Rattle.tql_spec.specs.Syntax.{ColumnNamed, Enclosed, CountStar, Over, Marked, FromEnds, SystemTime, Operand}
use Rattle.tql_spec.specs.Syntax.{ByMark, ByName, Condition, AnyOf, Conj, AllOf, Factor, Straight, Negated, Test}
use Rattle.tql_spec.specs.Syntax.{Grouped, Compared, NullTest, BetweenTest, InTest, RelationTest, ContainsPeriod}
use Rattle.tql_spec.specs.Syntax.{ContainsPoint}
use Rattle.tql_spec.specs.Parts.{AddedTerm, terms_of, factors_of, tests_of, conjs_of}
use Rattle.tql_syntax_grammar.specs.Outcome.{Failed, Read, Parser, ◌>>=◌, found, into, eat, keyword, symbol, name_at}
use Rattle.tql_syntax_grammar.specs.Outcome.{quote_at, begins, begins_second, begins_third, begins_name, if_front}
use Rattle.tql_syntax_grammar.specs.Outcome.{behind}
use Rattle.tql_syntax_grammar.specs.Outcome.{more, next}

-- ---- expressions

-- [name .] name
unfoldable pub named_at : Parser Named
named_at ts =
    name_at ts >>= λ n a.
    if (eat (Sign Dot) a).0
    then into (λ m. record { qualifier = Some n; name = m }) (name_at (eat (Sign Dot) a).1)
    else Read (record { qualifier = None; name = n }) (eat (Sign Dot) a).1

-- a literal without a word before it, or a column
unfoldable pub simple_at : Parser Primary
simple_at (Number ds ∷ ts) = Read (NumberLiteral ds) ts
simple_at (Quote t ∷ ts) = Read (TextLiteral t) ts
simple_at ts = into ColumnNamed (named_at ts)

-- SUM, MIN, MAX, or none of them
abbrev pub function_at : Parser (Option Function)
function_at =
    if_front (Word (codes "SUM")) (found (Some bound.Sum))
    (if_front (Word (codes "MIN")) (found (Some Min))
    (if_front (Word (codes "MAX")) (found (Some Max)) (found None)))

-- the rules, given the rule for expressions one level deeper
module _ (inner : Parser Sum) where
  -- expr )
  unfoldable pub inside_over : Parser Sum
  inside_over ts = inner ts >>= λ e a. symbol Close a >>= λ _ b. Read e b

  -- after COUNT: ( * ), or ( expr )
  unfoldable pub count_over : Parser Primary
  count_over ts =
      symbol Open ts >>= λ _ a.
      if_front (Sign Star) (λ us. into (λ _. CountStar) (symbol Close us)) (λ us. into (Over Count) (inside_over us)) a

  -- an aggregate other than COUNT, a literal or a column
  abbrev pub aggregate_or_simple : Option Function → Parser Primary
  aggregate_or_simple None ts = simple_at ts
  aggregate_or_simple (Some f) ts = symbol Open ts >>= λ _ a. into (Over f) (inside_over a)

  -- the alternatives without a first `(`, DATE, TIMESTAMP or COUNT
  abbrev pub other_primary : Parser Primary
  other_primary ts = function_at ts >>= λ f a. aggregate_or_simple f a

  unfoldable pub primary_over : Parser Primary
  primary_over =
      if_front (Sign Open) (λ us. into Enclosed (inside_over us))
      (if_front (Word (codes "DATE")) (λ us. into DateLiteral (quote_at us))
      (if_front (Word (codes "TIMESTAMP")) (λ us. into TimestampLiteral (quote_at us))
      (if_front (Word (codes "COUNT")) count_over other_primary)))

  unfoldable pub signed_over : Parser Signed
  signed_over =
      if_front (Sign PlusSign) (λ us. into Positive (primary_over us))
      (if_front (Sign MinusSign) (λ us. into Negative (primary_over us)) (λ us. into Unsigned (primary_over us)))

  -- * signed
  unfoldable pub next_factor : Parser (Option Signed)
  next_factor = behind (Sign Star) signed_over

  -- the term that begins with this factor
  unfoldable pub term_behind : Signed → Parser Product
  term_behind s ts = into (λ ss. Factors s (factors_of ss)) (more next_factor [] ts)

  unfoldable pub term_over : Parser Product
  term_over ts = signed_over ts >>= λ s a. term_behind s a

  -- + term, or - term
  unfoldable pub next_term : Parser (Option AddedTerm)
  next_term =
      if_front (Sign PlusSign) (λ us. into (λ t. Some (record { is_minus = false; term = t })) (term_over us))
      (if_front (Sign MinusSign) (λ us. into (λ t. Some (record { is_minus = true; term = t })) (term_over us))
      (found None))

  -- the expression that begins with this term
  unfoldable pub sum_behind : Product → Parser Sum
  sum_behind t ts = into (λ added. Terms t (terms_of added)) (more next_term [] ts)

  unfoldable pub sum_over : Parser Sum
  sum_over ts = term_over ts >>= λ t a. sum_behind t a

  -- the expression that begins with this primary
  unfoldable pub sum_from : Primary → Parser Sum
  sum_from p ts = term_behind (Unsigned p) ts >>= λ t a. sum_behind t a

-- an expression
unfoldable pub expr_at : ℕ → Parser Sum
expr_at zero ts = Failed
expr_at (suc n) ts = sum_over (expr_at n) ts

-- ---- words of conditions

-- a comparison, or none
unfoldable pub comparison_at : Parser (Option Comparison)
comparison_at =
    if_front (Sign EqualSign) (found (Some Equals))
    (if_front (Sign UnequalSign) (found (Some Differs))
    (if_front (Sign LessSign) (found (Some Below))
    (if_front (Sign AtMostSign) (found (Some AtMost))
    (if_front (Sign MoreSign) (found (Some Above))
    (if_front (Sign AtLeastSign) (found (Some AtLeast)) (found None))))))

-- after IMMEDIATELY: PRECEDES or SUCCEEDS
unfoldable pub immediate_at : Parser Relation
immediate_at =
    if_front (Word (codes "PRECEDES")) (found ImmediatelyPrecedes)
    (λ us. into (λ _. ImmediatelySucceeds) (keyword (codes "SUCCEEDS") us))

-- a relation that is a word, or none
unfoldable pub relation_at : Parser (Option Relation)
relation_at =
    if_front (Word (codes "OVERLAPS")) (found (Some Overlaps))
    (if_front (Word (codes "EQUALS")) (found (Some SameAs))
    (if_front (Word (codes "PRECEDES")) (found (Some Precedes))
    (if_front (Word (codes "SUCCEEDS")) (found (Some Succeeds))
    (if_front (Word (codes "IMMEDIATELY")) (λ us. into Some (immediate_at us)) (found None)))))

-- [NOT], and whether it is there
abbrev pub negation_at : Parser Bool
negation_at ts = Read (eat (Word (codes "NOT")) ts).0 (eat (Word (codes "NOT")) ts).1

-- whether a marked period is in front: PERIOD, SYSTEM_TIME, or name . SYSTEM_TIME
abbrev pub begins_marked : List Token → Bool
begins_marked ts =
    begins (Word (codes "PERIOD")) ts || (begins (Word (codes "SYSTEM_TIME")) ts
    || (begins_name ts && (begins_second (Sign Dot) ts && begins_third (Word (codes "SYSTEM_TIME")) ts)))

-- the name of an expression that is one column reference
abbrev pub as_named : Sum → Option Named
as_named (Terms (Factors (Unsigned (ColumnNamed r)) NoFactor) NoTerm) = Some r
as_named _ = None

-- ---- conditions

-- a test, or an expression that does not continue as a test
pub data Tested : Type 0 where
  WholeTest : Test → Tested
  BareExpr : Sum → Tested

-- a condition, or an expression
pub data Mixed : Type 0 where
  WholeCondition : Condition → Mixed
  WholeExpr : Sum → Mixed

-- the test, if it is one; else failure
abbrev pub the_test : Tested → Parser Test
the_test (WholeTest t) ts = Read t ts
the_test (BareExpr e) ts = Failed

-- the test, if there is one; else failure
abbrev pub wanted_test : Option Test → Parser Test
wanted_test None ts = Failed
wanted_test (Some t) ts = Read t ts

-- the test, if there is one; else the expression alone
abbrev pub test_or : Sum → Option Test → Tested
test_or e None = BareExpr e
test_or e (Some t) = WholeTest t

-- name . SYSTEM_TIME
unfoldable pub qualified_system_at : Parser Marked
qualified_system_at ts =
    name_at ts >>= λ n a. symbol Dot a >>= λ _ b. into (λ _. SystemTime (Some n)) (keyword (codes "SYSTEM_TIME") b)

-- after IS: [NOT] NULL
unfoldable pub null_test_at : Sum → Parser Test
null_test_at e ts = negation_at ts >>= λ b a. into (λ _. NullTest b e) (keyword (codes "NULL") a)

-- the rules, given the rule for expressions one level deeper
module _ (inner : Parser Sum) where
  -- after PERIOD: ( expr , expr )
  unfoldable pub ends_over : Parser Marked
  ends_over ts =
      symbol Open ts >>= λ _ a. sum_over inner a >>= λ s b. symbol Comma b >>= λ _ c. sum_over inner c >>= λ e d.
      symbol Close d >>= λ _ rest. Read (FromEnds s e) rest

  unfoldable pub marked_over : Parser Marked
  marked_over =
      if_front (Word (codes "PERIOD")) ends_over
      (if_front (Word (codes "SYSTEM_TIME")) (found (SystemTime None)) qualified_system_at)

  unfoldable pub operand_over : Parser Operand
  operand_over ts = if begins_marked ts then into ByMark (marked_over ts) else into ByName (named_at ts)

  -- after this operand and CONTAINS: a marked period or an expression
  unfoldable pub contained_over : Operand → Parser Test
  contained_over x ts = if begins_marked ts then into (ContainsPeriod x) (marked_over ts) else into (ContainsPoint x)
      (sum_over inner ts)

  -- after this operand: a relation and an operand, CONTAINS, or neither
  abbrev pub related_by : Operand → Option Relation → Parser (Option Test)
  related_by x (Some r) ts = into (λ y. Some (RelationTest x r y)) (operand_over ts)
  related_by x None ts = behind (Word (codes "CONTAINS")) (contained_over x) ts

  unfoldable pub related_over : Operand → Parser (Option Test)
  related_over x ts = relation_at ts >>= λ r a. related_by x r a

  -- after [NOT] BETWEEN: expr AND expr
  unfoldable pub between_over : Bool → Sum → Parser Test
  between_over b e ts =
      sum_over inner ts >>= λ low a. keyword (codes "AND") a >>= λ _ c. into (λ high. BetweenTest b e low high)
      (sum_over inner c)

  -- after [NOT] IN: ( expr {, expr} )
  unfoldable pub in_over : Bool → Sum → Parser Test
  in_over b e ts =
      symbol Open ts >>= λ _ a. sum_over inner a >>= λ x c. more (next (sum_over inner)) [] c >>= λ xs d.
      into (λ _. InTest b e x xs) (symbol Close d)

  -- after NOT: BETWEEN or IN
  unfoldable pub denied_over : Sum → Parser Test
  denied_over e =
      if_front (Word (codes "BETWEEN")) (between_over true e)
      (λ us. keyword (codes "IN") us >>= λ _ a. in_over true e a)

  -- after this expression: a relation or CONTAINS if it is one column reference, or nothing
  abbrev pub period_test_over : Sum → Option Named → Parser Tested
  period_test_over e None ts = Read (BareExpr e) ts
  period_test_over e (Some r) ts = into (test_or e) (related_over (ByName r) ts)

  -- after this expression: the rest of a test that continues with a word, or nothing
  unfoldable pub word_test_over : Sum → Parser Tested
  word_test_over e =
      if_front (Word (codes "IS")) (λ us. into WholeTest (null_test_at e us))
      (if_front (Word (codes "NOT")) (λ us. into WholeTest (denied_over e us))
      (if_front (Word (codes "BETWEEN")) (λ us. into WholeTest (between_over false e us))
      (if_front (Word (codes "IN")) (λ us. into WholeTest (in_over false e us)) (period_test_over e (as_named e)))))

  -- after this expression: a comparison and its right side, the rest of another test, or nothing
  abbrev pub compared_by : Sum → Option Comparison → Parser Tested
  compared_by e (Some op) ts = into (λ b. WholeTest (Compared op e b)) (sum_over inner ts)
  compared_by e None ts = word_test_over e ts

  unfoldable pub test_behind : Sum → Parser Tested
  test_behind e ts = comparison_at ts >>= λ op a. compared_by e op a

  -- a test that begins with a marked period
  unfoldable pub marked_test_over : Parser Tested
  marked_test_over ts = marked_over ts >>= λ m a. related_over (ByMark m) a >>= λ o b. into WholeTest (wanted_test o b)

  -- and given the rule for the content of parentheses
  module _ (mixed : Parser Mixed) where
    -- after `( condition )` or `( expr )`
    abbrev pub closed_over : Mixed → Parser Tested
    closed_over (WholeCondition c) ts = Read (WholeTest (Grouped c)) ts
    closed_over (WholeExpr e) ts = sum_from inner (Enclosed e) ts >>= λ s a. test_behind s a

    -- after `(`
    unfoldable pub opened_over : Parser Tested
    opened_over ts = mixed ts >>= λ m a. symbol Close a >>= λ _ b. closed_over m b

    -- where no marked period is in front
    abbrev pub unmarked_over : Parser Tested
    unmarked_over = if_front (Sign Open) opened_over (λ us. sum_over inner us >>= λ e a. test_behind e a)

    unfoldable pub tested_over : Parser Tested
    tested_over ts = if begins_marked ts then marked_test_over ts else unmarked_over ts

    unfoldable pub test_over : Parser Test
    test_over ts = tested_over ts >>= λ t a. the_test t a

    unfoldable pub factor_over : Parser Factor
    factor_over = if_front (Word (codes "NOT")) (λ us. into Negated (test_over us)) (λ us. into Straight (test_over us))

    -- AND factor
    unfoldable pub next_test : Parser (Option Factor)
    next_test = behind (Word (codes "AND")) factor_over

    -- the conjunction that begins with this factor
    unfoldable pub conj_behind : Factor → Parser Conj
    conj_behind f ts = into (λ fs. AllOf f (tests_of fs)) (more next_test [] ts)

    unfoldable pub conj_over : Parser Conj
    conj_over ts = factor_over ts >>= λ f a. conj_behind f a

    -- OR conj
    unfoldable pub next_conj : Parser (Option Conj)
    next_conj = behind (Word (codes "OR")) conj_over

    -- the condition that begins with this factor
    unfoldable pub condition_behind : Factor → Parser Condition
    condition_behind f ts = conj_behind f ts >>= λ c a. into (λ cs. AnyOf c (conjs_of cs)) (more next_conj [] a)

    unfoldable pub condition_over : Parser Condition
    condition_over ts = factor_over ts >>= λ f a. condition_behind f a

    -- after a test or an expression
    abbrev pub mixed_behind : Tested → Parser Mixed
    mixed_behind (WholeTest t) ts = into WholeCondition (condition_behind (Straight t) ts)
    mixed_behind (BareExpr e) ts = Read (WholeExpr e) ts

    unfoldable pub mixed_over : Parser Mixed
    mixed_over =
        if_front (Word (codes "NOT"))
        (λ us. test_over us >>= λ t a. into WholeCondition (condition_behind (Negated t) a))
        (λ us. tested_over us >>= λ t a. mixed_behind t a)

-- a condition or an expression
unfoldable pub mixed_at : ℕ → Parser Mixed
mixed_at zero ts = Failed
mixed_at (suc n) ts = mixed_over (expr_at n) (mixed_at n) ts

-- a condition
unfoldable pub condition_at : ℕ → Parser Condition
condition_at zero ts = Failed
condition_at (suc n) ts = condition_over (expr_at n) (mixed_at n) ts

-- ---- with the number of tokens as the bound on levels

abbrev pub expr_here : Parser Sum
expr_here ts = expr_at (length ts) ts

abbrev pub condition_here : Parser Condition
condition_here ts = condition_at (length ts) ts
