-- Conditions: the reading rules are sound.
use Rattle.std.specs.Prelude.{◌≡◌, refl, ℕ, zero, suc, Bool, true, false, List, [], ◌∷◌, codes, length, Option, Some}
use Rattle.std.specs.Prelude.{None}
use Rattle.std.proofs.Common.{sym, ◌∙◌, ap, subst, inl, inr}
use Rattle.tql_spec.specs.Datum.{Comparison, Equals, Differs, Below, AtMost, Above, AtLeast}
use Rattle.tql_spec.specs.Period.{Relation, Overlaps, SameAs, Precedes, Succeeds, ImmediatelyPrecedes}
use Rattle.tql_spec.specs.Period.{ImmediatelySucceeds}
use Rattle.tql_spec.specs.Token.{Token, Word, Sign, Open, Close, Comma, Dot, EqualSign, UnequalSign, LessSign}
use Rattle.tql_spec.specs.Token.{AtMostSign, MoreSign, AtLeastSign}
use Rattle.tql_spec.specs.Syntax.{Named, Sum, NoTerm, Terms, NoFactor, Factors, Unsigned, ColumnNamed, Enclosed}
use Rattle.tql_spec.specs.Syntax.{Marked, FromEnds, SystemTime, Operand, ByMark, ByName, Condition, AnyOf, Conj}
use Rattle.tql_spec.specs.Syntax.{AllOf, Factor, Straight, Negated, Test, Grouped, Compared, NullTest, BetweenTest}
use Rattle.tql_spec.specs.Syntax.{InTest, RelationTest, ContainsPeriod, ContainsPoint}
use Rattle.tql_spec.specs.Grammar.{Phrase, key, sign, ◌⨟◌, optional, each, named, expr, comparison, relation, marked}
use Rattle.tql_spec.specs.Grammar.{operand, negation, condition, more_conjs, conj, more_tests, factor, test}
use Rattle.tql_syntax_grammar.specs.Outcome.{Read, Parser, ◌>>=◌, into, eat, expect, keyword, name_at, more, next}
use Rattle.tql_spec.specs.Parts.{tests_of, conjs_of}
use Rattle.tql_syntax_grammar.specs.ReadingExpressions.{named_at, sum_over, sum_from, expr_at, comparison_at}
use Rattle.tql_syntax_grammar.specs.ReadingExpressions.{immediate_at}
use Rattle.tql_syntax_grammar.specs.ReadingExpressions.{relation_at, begins_marked, as_named, Tested, WholeTest}
use Rattle.tql_syntax_grammar.specs.ReadingExpressions.{BareExpr}
use Rattle.tql_syntax_grammar.specs.ReadingExpressions.{Mixed, WholeCondition, WholeExpr, the_test, wanted_test}
use Rattle.tql_syntax_grammar.specs.ReadingExpressions.{test_or}
use Rattle.tql_syntax_grammar.specs.ReadingExpressions.{ends_over, qualified_system_at, marked_over, operand_over}
use Rattle.tql_syntax_grammar.specs.ReadingExpressions.{contained_over, related_by, related_over, null_test_at}
use Rattle.tql_syntax_grammar.specs.ReadingExpressions.{between_over}
use Rattle.tql_syntax_grammar.specs.ReadingExpressions.{in_over, denied_over, period_test_over, word_test_over}
use Rattle.tql_syntax_grammar.specs.ReadingExpressions.{compared_by}
use Rattle.tql_syntax_grammar.specs.ReadingExpressions.{test_behind, marked_test_over, closed_over, opened_over}
use Rattle.tql_syntax_grammar.specs.ReadingExpressions.{unmarked_over, tested_over, test_over, factor_over, next_test}
use Rattle.tql_syntax_grammar.specs.ReadingExpressions.{conj_behind, conj_over, next_conj, condition_behind}
use Rattle.tql_syntax_grammar.specs.ReadingExpressions.{condition_over}
use Rattle.tql_syntax_grammar.specs.ReadingExpressions.{mixed_behind, mixed_over, mixed_at, condition_at}
use Rattle.tql_syntax_grammar.specs.ReadingExpressions.{condition_here}
use Rattle.tql_syntax_grammar.proofs.Steps.{then_is, into_sound, choose, spelled_as, Sound, eat_true, eat_false}
use Rattle.tql_syntax_grammar.proofs.Steps.{expect_is}
use Rattle.tql_syntax_grammar.proofs.Steps.{expect_then, name_is, behind_is, more_is, more_next_is}
use Rattle.tql_syntax_grammar.proofs.ExpressionLaws.{made_is, front_or, found_or, found_sound, named_sound, sum_sound}
use Rattle.tql_syntax_grammar.proofs.ExpressionLaws.{sum_from_sound, expr_at_sound}

-- ---- words

comparison_sound : Sound (optional comparison) comparison_at
unfolding comparison_at
comparison_sound =
    found_or (optional comparison) (Sign EqualSign) (Some Equals) _ (λ ts rest e. e)
    (found_or (optional comparison) (Sign UnequalSign) (Some Differs) _ (λ ts rest e. e)
    (found_or (optional comparison) (Sign LessSign) (Some Below) _ (λ ts rest e. e)
    (found_or (optional comparison) (Sign AtMostSign) (Some AtMost) _ (λ ts rest e. e)
    (found_or (optional comparison) (Sign MoreSign) (Some Above) _ (λ ts rest e. e)
    (found_or (optional comparison) (Sign AtLeastSign) (Some AtLeast) _ (λ ts rest e. e)
    (found_sound (optional comparison) None (λ ts. refl)))))))

-- after IMMEDIATELY: PRECEDES or SUCCEEDS
immediate_sound : (before ts : List Token) → before ≡ Word (codes "IMMEDIATELY") ∷ ts
    → (r : Relation) (rest : List Token) → immediate_at ts ≡ Read r rest → relation r before rest
unfolding immediate_at
immediate_sound before ts is r rest e =
    front_or (λ q us vs. us ≡ ts → relation q before vs) (Word (codes "PRECEDES")) _ _
    (λ us mid precedes q vs o same. spelled_as relation before ImmediatelyPrecedes q mid vs o (
      ts,
      is,
      sym same
          ∙ precedes,
    ))
    (λ us q vs o same.
    made_is relation (λ _. ImmediatelySucceeds) (keyword (codes "SUCCEEDS") us) before q vs
    (λ u w. (ts, is, sym same ∙ expect_is (Word (codes "SUCCEEDS")) us vs u w)) o)
    ts r rest e refl

relation_sound : Sound (optional relation) relation_at
unfolding relation_at
relation_sound =
    found_or (optional relation) (Word (codes "OVERLAPS")) (Some Overlaps) _ (λ ts rest e. e)
    (found_or (optional relation) (Word (codes "EQUALS")) (Some SameAs) _ (λ ts rest e. e)
    (found_or (optional relation) (Word (codes "PRECEDES")) (Some Precedes) _ (λ ts rest e. e)
    (found_or (optional relation) (Word (codes "SUCCEEDS")) (Some Succeeds) _ (λ ts rest e. e)
    (front_or (optional relation) (Word (codes "IMMEDIATELY")) _ _
    (λ ts mid is o rest e. made_is (optional relation) Some (immediate_at mid) ts o rest
    (λ r w. immediate_sound ts mid is r rest w) e)
    (found_sound (optional relation) None (λ ts. refl))))))

negation_by : (b : Bool) (ts : List Token) → (eat (Word (codes "NOT")) ts).0 ≡ b
    → negation b ts (eat (Word (codes "NOT")) ts).1
negation_by true ts e = eat_true (Word (codes "NOT")) ts e
negation_by false ts e = sym (eat_false (Word (codes "NOT")) ts e)

-- an expression that is one column reference is spelled as that reference
column_alone : (e : Sum) (r : Named) (before ts : List Token) → as_named e ≡ Some r → expr e before ts
    → named r before ts
column_alone (Terms (Factors (Unsigned (ColumnNamed q)) NoFactor) NoTerm) r before ts is s =
    let same : q ≡ r = cc in
    subst (λ (n : Named). named n before ts) same (subst (λ (us : List Token). named q before us) (s.1.2 ∙ s.2) s.1.1)
column_alone _ r before ts is s = absurd cc

-- ---- phrases of the rules that read two kinds

-- a test or an expression
abbrev pub tested : Tested → Phrase
tested (WholeTest t) = test t
tested (BareExpr e) = expr e

-- a condition or an expression
abbrev pub mixed_phrase : Mixed → Phrase
mixed_phrase (WholeCondition c) = condition c
mixed_phrase (WholeExpr e) = expr e

-- a test that began with the tokens `before`, or nothing
abbrev related : List Token → Option Test → Phrase
related before None = λ ts rest. ts ≡ rest
related before (Some t) = λ ts rest. test t before rest

-- ---- the parts after the first

tests_spelled : (fs : List Factor) (ts rest : List Token) → each (λ f. key (codes "AND") ⨟ factor f) fs ts rest
    → more_tests (tests_of fs) ts rest
tests_spelled [] ts rest s = s
tests_spelled (f ∷ fs) ts rest s = (s.0, s.1, tests_spelled fs s.0 rest s.2)

conjs_spelled : (cs : List Conj) (ts rest : List Token) → each (λ c. key (codes "OR") ⨟ conj c) cs ts rest
    → more_conjs (conjs_of cs) ts rest
conjs_spelled [] ts rest s = s
conjs_spelled (c ∷ cs) ts rest s = (s.0, s.1, conjs_spelled cs s.0 rest s.2)

-- ---- the rules, given the rule for expressions one level deeper

module _ (inner : Parser Sum) (sound : Sound expr inner) where
  ends_sound : (before ts : List Token) → before ≡ Word (codes "PERIOD") ∷ ts → (m : Marked) (rest : List Token)
      → ends_over inner ts ≡ Read m rest → marked m before rest
  unfolding ends_over
  ends_sound before ts period m rest r =
      let a = expect_then (Sign Open) ts _ m rest r in
      let s = then_is (sum_over inner a.0) _ m rest a.2 in
      let c = expect_then (Sign Comma) s.1 _ m rest s.3 in
      let e = then_is (sum_over inner c.0) _ m rest c.2 in
      let d = expect_then (Sign Close) e.1 _ m rest e.3 in
      spelled_as marked before (FromEnds s.0 e.0) m d.0 rest d.2 (
        ts,
        period,
        (
          e.1,
          (a.0, a.1, (c.0, (s.1, sum_sound inner sound a.0 s.0 s.1 s.2, c.1), sum_sound inner sound c.0 e.0 e.1 e.2)),
          d.1,
        ),
      )

  qualified_sound : Sound marked (qualified_system_at)
  unfolding qualified_system_at
  qualified_sound ts m rest r =
      let a = then_is (name_at ts) _ m rest r in
      let b = expect_then (Sign Dot) a.1 _ m rest a.3 in
      made_is marked (λ _. SystemTime (Some a.0)) (keyword (codes "SYSTEM_TIME") b.0) ts m rest
      (λ u o. (b.0, (a.1, name_is ts a.0 a.1 a.2, b.1), expect_is (Word (codes "SYSTEM_TIME")) b.0 rest u o)) b.2

  pub marked_sound : Sound marked (marked_over inner)
  unfolding marked_over
  marked_sound =
      front_or marked (Word (codes "PERIOD")) _ _ ends_sound
      (found_or marked (Word (codes "SYSTEM_TIME")) (SystemTime None) _ (λ ts rest e. (ts, refl, e)) qualified_sound)

  operand_sound : Sound operand (operand_over inner)
  unfolding operand_over
  operand_sound ts x rest e =
      elim (choose (begins_marked ts) _ _ x rest e) [
        | inl a ↦ made_is operand ByMark (marked_over inner ts) ts x rest (λ m o. marked_sound ts m rest o) a.1
        | inr a ↦ made_is operand ByName (named_at ts) ts x rest (λ r o. named_sound ts r rest o) a.1
      ]

  -- after CONTAINS
  contained_sound : (x : Operand) (before mid ts : List Token) → operand x before mid
      → mid ≡ Word (codes "CONTAINS") ∷ ts → (t : Test) (rest : List Token) → contained_over inner x ts ≡ Read t rest
      → test t before rest
  unfolding contained_over
  contained_sound x before mid ts first contains t rest e =
      elim (choose (begins_marked ts) _ _ t rest e) [
        | inl a ↦
            made_is test (ContainsPeriod x) (marked_over inner ts) before t rest
            (λ m o. (ts, (mid, first, contains), marked_sound ts m rest o)) a.1
        | inr a ↦
            made_is test (ContainsPoint x) (sum_over inner ts) before t rest
            (λ p o. (ts, (mid, first, contains), sum_sound inner sound ts p rest o)) a.1
      ]

  related_by_sound : (x : Operand) (r : Option Relation) (before ts mid : List Token) → operand x before ts
      → optional relation r ts mid → (o : Option Test) (rest : List Token) → related_by inner x r mid ≡ Read o rest
      → related before o ts rest
  related_by_sound x None before ts mid first s o rest e =
      front_or (λ q us vs. us ≡ ts → related before q ts vs) (Word (codes "CONTAINS")) _ _
      (λ us vs is q ws w same.
      made_is (related before) Some (contained_over inner x vs) ts q ws
      (λ t v. contained_sound x before ts vs first (sym same ∙ is) t ws v) w)
      (λ us q vs w same. spelled_as (related before) ts None q us vs w (sym same))
      mid o rest e (sym s)
  related_by_sound x (Some r) before ts mid first s o rest e =
      made_is (related before) (λ y. Some (RelationTest x r y)) (operand_over inner mid) ts o rest
      (λ y v. (mid, (ts, first, s), operand_sound mid y rest v)) e

  related_sound : (x : Operand) (before ts : List Token) → operand x before ts
      → (o : Option Test) (rest : List Token) → related_over inner x ts ≡ Read o rest → related before o ts rest
  unfolding related_over
  related_sound x before ts first o rest e =
      let a = then_is (relation_at ts) _ o rest e in
      related_by_sound x a.0 before ts a.1 first (relation_sound ts a.0 a.1 a.2) o rest a.3

  null_sound : (e : Sum) (before mid ts : List Token) → expr e before mid → mid ≡ Word (codes "IS") ∷ ts
      → (t : Test) (rest : List Token) → null_test_at e ts ≡ Read t rest → test t before rest
  unfolding null_test_at
  null_sound e before mid ts first is t rest r =
      let not : Token = Word (codes "NOT") in
      made_is test (λ _. NullTest (eat not ts).0 e) (keyword (codes "NULL") (eat not ts).1) before t rest
      (λ u o. (
        (eat not ts).1,
        (ts, (mid, first, is), negation_by (eat not ts).0 ts refl),
        expect_is
            (Word (codes "NULL")) (eat not ts).1 rest u o,
      )) r

  between_sound : (b : Bool) (e : Sum) (before ts : List Token)
      → (expr e ⨟ negation b ⨟ key (codes "BETWEEN")) before ts → (t : Test) (rest : List Token)
      → between_over inner b e ts ≡ Read t rest → test t before rest
  unfolding between_over
  between_sound b e before ts first t rest r =
      let low = then_is (sum_over inner ts) _ t rest r in
      let c = expect_then (Word (codes "AND")) low.1 _ t rest low.3 in
      made_is test (λ high. BetweenTest b e low.0 high) (sum_over inner c.0) before t rest
      (λ high o. (
        c.0,
        (low.1, (ts, first, sum_sound inner sound ts low.0 low.1 low.2), c.1),
        sum_sound inner sound
            c.0 high rest o,
      )) c.2

  in_sound : (b : Bool) (e : Sum) (before ts : List Token) → (expr e ⨟ negation b ⨟ key (codes "IN")) before ts
      → (t : Test) (rest : List Token) → in_over inner b e ts ≡ Read t rest → test t before rest
  unfolding in_over
  in_sound b e before ts first t rest r =
      let a = expect_then (Sign Open) ts _ t rest r in
      let x = then_is (sum_over inner a.0) _ t rest a.2 in
      let xs = then_is (more (next (sum_over inner)) [] x.1) _ t rest x.3 in
      let others = more_next_is expr (sum_over inner) (sum_sound inner sound) x.1 xs.0 xs.1 xs.2 in
      made_is test (λ _. InTest b e x.0 xs.0) (expect (Sign Close) xs.1) before t rest
      (λ u o. (
        ts,
        first,
        (
          xs.1,
          (a.0, a.1, (x.1, sum_sound inner sound a.0 x.0 x.1 x.2, others)),
          expect_is (Sign Close)
              xs.1 rest u o,
        ),
      ))
      xs.3

  -- after NOT
  denied_sound : (e : Sum) (before mid ts : List Token) → expr e before mid → mid ≡ Word (codes "NOT") ∷ ts
      → (t : Test) (rest : List Token) → denied_over inner e ts ≡ Read t rest → test t before rest
  unfolding denied_over
  denied_sound e before mid ts first not t rest r =
      front_or (λ q us vs. us ≡ ts
      → test q before vs) (Word (codes "BETWEEN")) (between_over inner true e)
      (λ us. keyword (codes "IN") us >>= λ _ a. in_over inner true e a)
      (λ us vs is q ws w same. between_sound true e before vs (
        us,
        (
          mid,
          first,
          not
              ∙ ap (λ (zs : List Token). Word (codes "NOT") ∷ zs) (sym same),
        ),
        is,
      ) q ws w)
      (λ us q ws w same.
      let a = expect_then (Word (codes "IN")) us (λ _ vs. in_over inner true e vs) q ws w in
      in_sound true e before a.0 (
        us,
        (
          mid,
          first,
          not
              ∙ ap (λ (zs : List Token). Word (codes "NOT") ∷ zs) (sym same),
        ),
        a.1,
      ) q ws a.2)
      ts t rest r refl

  -- the test that was found after the expression, or the expression alone
  or_alone : (e : Sum) (before ts : List Token) → expr e before ts → (o : Option Test) (rest : List Token)
      → related before o ts rest → tested (test_or e o) before rest
  or_alone e before ts first None rest s = subst (λ us. expr e before us) s first
  or_alone e before ts first (Some t) rest s = s

  period_test_sound : (e : Sum) (r : Option Named) → as_named e ≡ r → (before ts : List Token) → expr e before ts
      → (x : Tested) (rest : List Token) → period_test_over inner e r ts ≡ Read x rest → tested x before rest
  period_test_sound e None is before ts first x rest w = spelled_as tested before (BareExpr e) x ts rest w first
  period_test_sound e (Some r) is before ts first x rest w =
      made_is tested (test_or e) (related_over inner (ByName r) ts) before x rest
      (λ o v. or_alone e before ts first o rest
      (related_sound (ByName r) before ts (column_alone e r before ts is first) o rest v)) w

  word_test_sound : (e : Sum) (before ts : List Token) → expr e before ts → (x : Tested) (rest : List Token)
      → word_test_over inner e ts ≡ Read x rest → tested x before rest
  unfolding word_test_over
  word_test_sound e before ts first x rest w =
      let P : Tested → Phrase = λ q us vs. us ≡ ts → tested q before vs in
      front_or P (Word (codes "IS")) _ _
      (λ us vs is q ws v same.
      made_is tested WholeTest (null_test_at e vs) before q ws (λ t o. null_sound e before ts vs first (sym same
      ∙ is) t ws o) v)
      (front_or P (Word (codes "NOT")) _ _
      (λ us vs is q ws v same.
      made_is tested WholeTest (denied_over inner e vs) before q ws
      (λ t o. denied_sound e before ts vs first (sym same ∙ is) t ws o) v)
      (front_or P (Word (codes "BETWEEN")) _ _
      (λ us vs is q ws v same.
      made_is tested WholeTest (between_over inner false e vs) before q ws
      (λ t o. between_sound false e before vs (ts, (ts, first, refl), sym same ∙ is) t ws o) v)
      (front_or P (Word (codes "IN")) _ _
      (λ us vs is q ws v same.
      made_is tested WholeTest (in_over inner false e vs) before q ws
      (λ t o. in_sound false e before vs (ts, (ts, first, refl), sym same ∙ is) t ws o) v)
      (λ us q ws v same. period_test_sound e (as_named e) refl before us
      (subst (λ zs. expr e before zs) (sym same) first) q ws v))))
      ts x rest w refl

  compared_sound : (e : Sum) (op : Option Comparison) (before ts mid : List Token) → expr e before ts
      → optional comparison op ts mid → (x : Tested) (rest : List Token) → compared_by inner e op mid ≡ Read x rest
      → tested x before rest
  compared_sound e None before ts mid first s x rest w =
      word_test_sound e before mid (subst (λ us. expr e before us) s first) x rest w
  compared_sound e (Some op) before ts mid first s x rest w =
      made_is tested (λ b. WholeTest (Compared op e b)) (sum_over inner mid) before x rest
      (λ b o. (mid, (ts, first, s), sum_sound inner sound mid b rest o)) w

  -- this expression continues as a test, or is alone
  test_behind_sound : (e : Sum) (before ts : List Token) → expr e before ts → (x : Tested) (rest : List Token)
      → test_behind inner e ts ≡ Read x rest → tested x before rest
  unfolding test_behind
  test_behind_sound e before ts first x rest w =
      let a = then_is (comparison_at ts) _ x rest w in
      compared_sound e a.0 before ts a.1 first (comparison_sound ts a.0 a.1 a.2) x rest a.3

  wanted_sound : (o : Option Test) (before mid ts : List Token) → related before o mid ts
      → (t : Test) (rest : List Token) → wanted_test o ts ≡ Read t rest → test t before rest
  wanted_sound None before mid ts s t rest w = absurd cc
  wanted_sound (Some q) before mid ts s t rest w = spelled_as test before q t ts rest w s

  marked_test_sound : Sound tested (marked_test_over inner)
  unfolding marked_test_over
  marked_test_sound ts x rest w =
      let m = then_is (marked_over inner ts) _ x rest w in
      let o = then_is (related_over inner (ByMark m.0) m.1) _ x rest m.3 in
      let first = marked_sound ts m.0 m.1 m.2 in
      made_is tested WholeTest (wanted_test o.0 o.1) ts x rest
      (λ t v. wanted_sound o.0 ts m.1 o.1 (related_sound (ByMark m.0) ts m.1 first o.0 o.1 o.2) t rest v) o.3

  -- and given the rule for the content of parentheses
  module _ (mixed : Parser Mixed) (mixed_sound : Sound mixed_phrase mixed) where
    closed_sound : (m : Mixed) (before ts : List Token) → (sign Open ⨟ mixed_phrase m ⨟ sign Close) before ts
        → (x : Tested) (rest : List Token) → closed_over inner mixed m ts ≡ Read x rest → tested x before rest
    closed_sound (WholeCondition c) before ts s x rest w =
        spelled_as tested before (WholeTest (Grouped c)) x ts rest w s
    closed_sound (WholeExpr e) before ts s x rest w =
        let a = then_is (sum_from inner (Enclosed e) ts) _ x rest w in
        test_behind_sound a.0 before a.1 (sum_from_sound inner sound (Enclosed e) before ts a.0 a.1 s a.2) x rest a.3

    -- after `(`
    opened_sound : (before ts : List Token) → before ≡ Sign Open ∷ ts → (x : Tested) (rest : List Token)
        → opened_over inner mixed ts ≡ Read x rest → tested x before rest
    unfolding opened_over
    opened_sound before ts opened x rest w =
        let m = then_is (mixed ts) _ x rest w in
        let b = expect_then (Sign Close) m.1 _ x rest m.3 in
        closed_sound m.0 before b.0 (m.1, (ts, opened, mixed_sound ts m.0 m.1 m.2), b.1) x rest b.2

    bare_sound : Sound tested (λ us. sum_over inner us >>= λ e a. test_behind inner e a)
    bare_sound ts x rest w =
        let e = then_is (sum_over inner ts) _ x rest w in
        test_behind_sound e.0 ts e.1 (sum_sound inner sound ts e.0 e.1 e.2) x rest e.3

    unmarked_sound : Sound tested (unmarked_over inner mixed)
    unmarked_sound = front_or tested (Sign Open) (opened_over inner mixed)
        (λ us. sum_over inner us >>= λ e a. test_behind inner e a) opened_sound bare_sound

    tested_sound : Sound tested (tested_over inner mixed)
    unfolding tested_over
    tested_sound ts x rest w =
        elim (choose (begins_marked ts) _ _ x rest w) [
          | inl a ↦ marked_test_sound ts x rest a.1
          | inr a ↦ unmarked_sound ts x rest a.1
        ]

    the_test_sound : (x : Tested) (before ts : List Token) → tested x before ts → (t : Test) (rest : List Token)
        → the_test x ts ≡ Read t rest → test t before rest
    the_test_sound (WholeTest q) before ts s t rest w = spelled_as test before q t ts rest w s
    the_test_sound (BareExpr e) before ts s t rest w = absurd cc

    test_sound : Sound test (test_over inner mixed)
    unfolding test_over
    test_sound ts t rest w =
        let a = then_is (tested_over inner mixed ts) _ t rest w in
        the_test_sound a.0 ts a.1 (tested_sound ts a.0 a.1 a.2) t rest a.3

    factor_sound : Sound factor (factor_over inner mixed)
    unfolding factor_over
    factor_sound =
        front_or factor (Word (codes "NOT")) _ _
        (λ ts mid is f rest e. made_is factor Negated (test_over inner mixed mid) ts f rest
        (λ t o. (mid, is, test_sound mid t rest o)) e)
        (into_sound factor Straight (test_over inner mixed) test_sound)

    next_test_sound : Sound (optional (λ f. key (codes "AND") ⨟ factor f)) (next_test inner mixed)
    unfolding next_test
    next_test_sound = behind_is (Word (codes "AND")) factor (factor_over inner mixed) factor_sound

    -- the rest of the conjunction that begins with this factor
    conj_behind_sound : (f : Factor) (before ts : List Token) → factor f before ts → (c : Conj) (rest : List Token)
        → conj_behind inner mixed f ts ≡ Read c rest → conj c before rest
    unfolding conj_behind
    conj_behind_sound f before ts first c rest w =
        made_is conj (λ fs. AllOf f (tests_of fs)) (more (next_test inner mixed) [] ts) before c rest
        (λ fs o. (
          ts,
          first,
          tests_spelled fs ts rest
              (more_is (λ g. key (codes "AND") ⨟ factor g) (next_test inner mixed) next_test_sound ts fs rest o),
        )) w

    conj_sound : Sound conj (conj_over inner mixed)
    unfolding conj_over
    conj_sound ts c rest w =
        let a = then_is (factor_over inner mixed ts) _ c rest w in
        conj_behind_sound a.0 ts a.1 (factor_sound ts a.0 a.1 a.2) c rest a.3

    next_conj_sound : Sound (optional (λ c. key (codes "OR") ⨟ conj c)) (next_conj inner mixed)
    unfolding next_conj
    next_conj_sound = behind_is (Word (codes "OR")) conj (conj_over inner mixed) conj_sound

    -- the rest of the condition that begins with this factor
    condition_behind_sound : (f : Factor) (before ts : List Token) → factor f before ts
        → (c : Condition) (rest : List Token) → condition_behind inner mixed f ts ≡ Read c rest
        → condition c before rest
    unfolding condition_behind
    condition_behind_sound f before ts first c rest w =
        let a = then_is (conj_behind inner mixed f ts) _ c rest w in
        made_is condition (λ cs. AnyOf a.0 (conjs_of cs)) (more (next_conj inner mixed) [] a.1) before c rest
        (λ cs o. (
          a.1,
          conj_behind_sound f before ts first a.0 a.1 a.2,
          conjs_spelled cs a.1 rest
              (more_is (λ d. key (codes "OR") ⨟ conj d) (next_conj inner mixed) next_conj_sound a.1 cs rest o),
        ))
        a.3

    condition_over_sound : Sound condition (condition_over inner mixed)
    unfolding condition_over
    condition_over_sound ts c rest w =
        let a = then_is (factor_over inner mixed ts) _ c rest w in
        condition_behind_sound a.0 ts a.1 (factor_sound ts a.0 a.1 a.2) c rest a.3

    -- after a test or an expression
    mixed_behind_sound : (x : Tested) (before ts : List Token) → tested x before ts → (m : Mixed) (rest : List Token)
        → mixed_behind inner mixed x ts ≡ Read m rest → mixed_phrase m before rest
    mixed_behind_sound (WholeTest t) before ts s m rest w =
        made_is mixed_phrase WholeCondition (condition_behind inner mixed (Straight t) ts) before m rest
        (λ c o. condition_behind_sound (Straight t) before ts s c rest o) w
    mixed_behind_sound (BareExpr e) before ts s m rest w = spelled_as mixed_phrase before (WholeExpr e) m ts rest w s

    negated_sound : (ts mid : List Token) → ts ≡ Word (codes "NOT") ∷ mid → (m : Mixed) (rest : List Token)
        → (test_over inner mixed mid >>= λ t a. into WholeCondition (condition_behind inner mixed (Negated t) a)) ≡
        Read m rest → mixed_phrase m ts rest
    negated_sound ts mid is m rest w =
        let t = then_is (test_over inner mixed mid) _ m rest w in
        made_is mixed_phrase WholeCondition (condition_behind inner mixed (Negated t.0) t.1) ts m rest
        (λ c o. condition_behind_sound (Negated t.0) ts t.1 (mid, is, test_sound mid t.0 t.1 t.2) c rest o) t.3

    unnegated_sound : Sound mixed_phrase (λ us. tested_over inner mixed us >>= λ t a. mixed_behind inner mixed t a)
    unnegated_sound ts m rest w =
        let t = then_is (tested_over inner mixed ts) _ m rest w in
        mixed_behind_sound t.0 ts t.1 (tested_sound ts t.0 t.1 t.2) m rest t.3

    mixed_over_sound : Sound mixed_phrase (mixed_over inner mixed)
    unfolding mixed_over
    mixed_over_sound = front_or mixed_phrase (Word (codes "NOT")) _ _ negated_sound unnegated_sound

mixed_at_sound : (n : ℕ) → Sound mixed_phrase (mixed_at n)
unfolding mixed_at
mixed_at_sound zero ts m rest w = absurd cc
mixed_at_sound (suc n) ts m rest w =
    mixed_over_sound (expr_at n) (expr_at_sound n) (mixed_at n) (mixed_at_sound n) ts m rest w

condition_at_sound : (n : ℕ) → Sound condition (condition_at n)
unfolding condition_at
condition_at_sound zero ts c rest w = absurd cc
condition_at_sound (suc n) ts c rest w =
    condition_over_sound (expr_at n) (expr_at_sound n) (mixed_at n) (mixed_at_sound n) ts c rest w

pub condition_sound : Sound condition condition_here
condition_sound ts c rest w = condition_at_sound (length ts) ts c rest w
