-- Conditions: the reading rules are complete.
use Rattle.std.specs.Prelude.{◌≡◌, refl, ℕ, zero, suc, ◌≤◌, Bool, true, false, List, [], ◌∷◌, codes, length, Option}
use Rattle.std.specs.Prelude.{Some, None}
use Rattle.std.proofs.Common.{sym, ◌∙◌, ap, subst, arith}
use Rattle.tql_spec.specs.Datum.{Comparison, Equals, Differs, Below, AtMost, Above, AtLeast}
use Rattle.tql_spec.specs.Period.{Relation, Overlaps, Includes, SameAs, Precedes, Succeeds, ImmediatelyPrecedes}
use Rattle.tql_spec.specs.Period.{ImmediatelySucceeds}
use Rattle.tql_spec.specs.Token.{Token, Word, Sign, Open, Close, Comma, Dot, EqualSign, UnequalSign, LessSign}
use Rattle.tql_spec.specs.Token.{AtMostSign, MoreSign, AtLeastSign}
use Rattle.tql_spec.specs.Syntax.{Named, Sum, MoreTerms, NoTerm, Terms, MoreFactors, NoFactor, Factors, Unsigned}
use Rattle.tql_spec.specs.Syntax.{ColumnNamed, Enclosed, Marked, FromEnds, SystemTime, Operand, ByMark, ByName}
use Rattle.tql_spec.specs.Syntax.{Condition, AnyOf, MoreConjs, NoConj, OrConj, Conj, AllOf, MoreTests, NoTest}
use Rattle.tql_spec.specs.Syntax.{AndTest, Factor, Straight, Negated, Test, Grouped, Compared, NullTest, BetweenTest}
use Rattle.tql_spec.specs.Syntax.{InTest, RelationTest, ContainsPeriod, ContainsPoint}
use Rattle.tql_spec.specs.Grammar.{key, sign, ◌⨟◌, in_parens, each, commas, name, expr, comparison, relation, marked}
use Rattle.tql_spec.specs.Grammar.{operand, negation, condition, more_conjs, conj, more_tests, factor, test}
use Rattle.tql_syntax_grammar.specs.Outcome.{Read, Parser, eat, is_name, more, next}
use Rattle.tql_spec.specs.Parts.{tests_of, conjs_of}
use Rattle.tql_syntax_grammar.specs.ReadingExpressions.{sum_over, expr_at, comparison_at, immediate_at, relation_at}
use Rattle.tql_syntax_grammar.specs.ReadingExpressions.{as_named, WholeTest, BareExpr, Mixed, WholeCondition, WholeExpr}
use Rattle.tql_syntax_grammar.specs.ReadingExpressions.{ends_over, qualified_system_at, marked_over, operand_over}
use Rattle.tql_syntax_grammar.specs.ReadingExpressions.{contained_over, related_over, null_test_at, between_over}
use Rattle.tql_syntax_grammar.specs.ReadingExpressions.{in_over}
use Rattle.tql_syntax_grammar.specs.ReadingExpressions.{denied_over, period_test_over, word_test_over, test_behind}
use Rattle.tql_syntax_grammar.specs.ReadingExpressions.{marked_test_over, closed_over, opened_over, tested_over}
use Rattle.tql_syntax_grammar.specs.ReadingExpressions.{test_over}
use Rattle.tql_syntax_grammar.specs.ReadingExpressions.{factor_over, next_test, conj_behind, conj_over, next_conj}
use Rattle.tql_syntax_grammar.specs.ReadingExpressions.{condition_behind, condition_over, mixed_over, mixed_at}
use Rattle.tql_syntax_grammar.specs.ReadingExpressions.{condition_at}
use Rattle.tql_syntax_grammar.specs.ReadingExpressions.{condition_here}
use Rattle.tql_syntax_grammar.proofs.Ends.{EndsExpr, EndsCondition}
use Rattle.tql_syntax_grammar.proofs.Steps.{CompleteBefore, Shortens, Stops, expect_of, name_of, behind_some}
use Rattle.tql_syntax_grammar.proofs.Steps.{behind_none}
use Rattle.tql_syntax_grammar.proofs.Steps.{behind_comma, commas_front}
use Rattle.tql_syntax_grammar.proofs.FirstTokens.{Begins, eat_not, eat_none, at_token, at_name, starts_expr, ends_at}
use Rattle.tql_syntax_grammar.proofs.FirstTokens.{ends_before}
use Rattle.tql_syntax_grammar.proofs.ExpressionLaws.{named_complete, opens, at_expr, expr_shortens, ReadsWithin}
use Rattle.tql_syntax_grammar.proofs.ExpressionLaws.{more_within}
use Rattle.tql_syntax_grammar.proofs.ExpressionLaws.{sum_of, sum_from_of, expr_at_of}
use Rattle.tql_syntax_grammar.proofs.ConditionSound.{mixed_phrase}
pub use Rattle.tql_syntax_grammar.proofs.ConditionSound.{condition_sound}
pub use Rattle.tql_syntax_grammar.proofs.ConditionFronts.{condition_shortens}
use Rattle.tql_syntax_grammar.proofs.ConditionFronts.{comparison_shortens, relation_shortens, operand_shortens}
use Rattle.tql_syntax_grammar.proofs.ConditionFronts.{negation_within, conj_shortens, more_tests_within}
use Rattle.tql_syntax_grammar.proofs.ConditionFronts.{factor_shortens}
use Rattle.tql_syntax_grammar.proofs.ConditionFronts.{test_shortens, marked_begins, named_unmarked, expr_unmarked}
use Rattle.tql_syntax_grammar.proofs.ConditionFronts.{stops_expr, stops_test, comparison_front, negation_front, relates}
use Rattle.tql_syntax_grammar.proofs.ConditionFronts.{relation_front, relates_ends}

-- ---- words

comparison_of : (op : Comparison) (ts rest : List Token) → comparison op ts rest
    → comparison_at ts ≡ Read (Some op) rest
unfolding comparison_at
comparison_of Equals ts rest s = rw s refl
comparison_of Differs ts rest s = rw s refl
comparison_of Below ts rest s = rw s refl
comparison_of AtMost ts rest s = rw s refl
comparison_of Above ts rest s = rw s refl
comparison_of AtLeast ts rest s = rw s refl

relation_of : (r : Relation) (ts rest : List Token) → relation r ts rest → relation_at ts ≡ Read (Some r) rest
unfolding relation_at immediate_at
relation_of Overlaps ts rest s = rw s refl
relation_of SameAs ts rest s = rw s refl
relation_of Precedes ts rest s = rw s refl
relation_of Succeeds ts rest s = rw s refl
relation_of ImmediatelyPrecedes ts rest s = rw (s.1, s.2) refl
relation_of ImmediatelySucceeds ts rest s =
    rw (s.1, s.2, expect_of (Word (codes "SUCCEEDS")) (Word (codes "SUCCEEDS") ∷ rest) rest refl) refl
relation_of Includes ts rest s = absurd s

negation_of : (b : Bool) (w : List ℕ) (ts mid rest : List Token) → negation b ts mid → mid ≡ Word w ∷ rest
    → Stops (Word (codes "NOT")) mid → eat (Word (codes "NOT")) ts ≡ (b, mid)
negation_of true w ts mid rest s is stops = rw s refl
negation_of false w ts mid rest s is stops = rw s (eat_not (Word (codes "NOT")) mid stops)

-- no comparison is read before a word that relates two operands
no_comparison : (ts : List Token) → Begins relates ts → comparison_at ts ≡ Read None ts
unfolding comparison_at
no_comparison ts b =
    rw (
      eat_none relates (Sign EqualSign) ts refl b,
      eat_none relates (Sign UnequalSign) ts refl b,
      eat_none relates (Sign LessSign) ts refl b,
      eat_none relates (Sign AtMostSign) ts refl b,
      eat_none relates (Sign MoreSign) ts refl b,
      eat_none relates (Sign AtLeastSign) ts refl b,
    ) refl

-- `)` is in front
abbrev pub AtClose : List Token → Type 0
AtClose ts = (rest : List Token) × (ts ≡ Sign Close ∷ rest)

-- ---- the parts after the first

abbrev test_list : MoreTests → List Factor
test_list NoTest = []
test_list (AndTest f more) = f ∷ test_list more

tests_back : (m : MoreTests) → tests_of (test_list m) ≡ m
tests_back NoTest = refl
tests_back (AndTest f more) = ap (AndTest f) (tests_back more)

tests_each : (m : MoreTests) (ts rest : List Token) → more_tests m ts rest
    → each (λ f. key (codes "AND") ⨟ factor f) (test_list m) ts rest
tests_each NoTest ts rest s = s
tests_each (AndTest f more) ts rest s = (s.0, s.1, tests_each more s.0 rest s.2)

abbrev conj_list : MoreConjs → List Conj
conj_list NoConj = []
conj_list (OrConj c more) = c ∷ conj_list more

conjs_back : (m : MoreConjs) → conjs_of (conj_list m) ≡ m
conjs_back NoConj = refl
conjs_back (OrConj c more) = ap (OrConj c) (conjs_back more)

conjs_each : (m : MoreConjs) (ts rest : List Token) → more_conjs m ts rest
    → each (λ c. key (codes "OR") ⨟ conj c) (conj_list m) ts rest
conjs_each NoConj ts rest s = s
conjs_each (OrConj c more) ts rest s = (s.0, s.1, conjs_each more s.0 rest s.2)

and_shortens : Shortens (λ f. key (codes "AND") ⨟ factor f)
and_shortens ts f rest s = let h = factor_shortens s.0 f rest s.2 in omega (arith, ap length s.1)

or_shortens : Shortens (λ c. key (codes "OR") ⨟ conj c)
or_shortens ts c rest s = let h = conj_shortens s.0 c rest s.2 in omega (arith, ap length s.1)

comma_shortens : Shortens (behind_comma expr)
comma_shortens ts e rest s = let h = expr_shortens s.0 e rest s.2 in omega (arith, ap length s.1)

-- an expression ends before the further factors of a conjunction
tests_front : (m : MoreTests) (ts rest : List Token) → more_tests m ts rest → EndsExpr rest → EndsExpr ts
tests_front NoTest ts rest s ends = subst EndsExpr (sym s) ends
tests_front (AndTest f more) ts rest s ends = ends_before (Word (codes "AND")) ts s.1.0 refl s.1.1

-- the condition on the tokens after a conjunction
record EndsConj (rest : List Token) : Type 0 where
  expr : EndsExpr rest
  also : Stops (Word (codes "AND")) rest

or_front : (ts rest : List Token) → ts ≡ Word (codes "OR") ∷ rest → EndsConj ts
or_front ts rest is = record { expr = ends_before (Word (codes "OR")) ts rest refl is; also = rw is refl }

ends_conj : (rest : List Token) → EndsCondition rest → EndsConj rest
ends_conj rest ends = record { expr = ends.expr; also = ends.also }

-- a condition ends before `)`
close_ends : (ts : List Token) → AtClose ts → EndsCondition ts
close_ends ts close = record {
  expr = ends_before (Sign Close) ts close.0 refl close.1;
  also = rw close.1 refl;
  or = rw close.1 refl;
}

-- a conjunction ends before the further conjunctions of a condition
conjs_front : (m : MoreConjs) (ts rest : List Token) → more_conjs m ts rest → EndsConj rest → EndsConj ts
conjs_front NoConj ts rest s ends = subst EndsConj (sym s) ends
conjs_front (OrConj c more) ts rest s ends = or_front ts s.1.0 s.1.1

-- ---- the rules, given the rule for expressions one level deeper

module _ (n : ℕ) (inner : Parser Sum) (reads : ReadsWithin n EndsExpr expr inner) where
  qualified_of : (q : List ℕ) (ts rest : List Token) → (name q ⨟ sign Dot ⨟ key (codes "SYSTEM_TIME")) ts rest
      → qualified_system_at ts ≡ Read (SystemTime (Some q)) rest
  unfolding qualified_system_at
  qualified_of q ts rest s =
      rw (
        name_of ts q s.1.0 s.1.1,
        expect_of (Sign Dot) s.1.0 s.0 s.1.2,
        expect_of (Word (codes "SYSTEM_TIME")) s.0 rest s.2,
      ) refl

  ends_of : (a e : Sum) (ts rest : List Token) → length ts ≤ suc n → in_parens (expr a ⨟ sign Comma ⨟ expr e) ts rest
      → ends_over inner ts ≡ Read (FromEnds a e) rest
  unfolding ends_over
  ends_of a e ts rest fuel s =
      let inside = s.1.2 in
      let comma = inside.1 in
      let h = expr_shortens s.1.0 a comma.0 comma.1 in
      let first : length s.1.0 ≤ suc n = omega (arith, ap length s.1.1) in
      let second : length inside.0 ≤ suc n = omega (arith, ap length s.1.1, ap length comma.2) in
      rw (
        expect_of (Sign Open) ts s.1.0 s.1.1,
        sum_of n inner reads s.1.0 a comma.0 first comma.1 (ends_before (Sign Comma) comma.0 inside.0 refl comma.2),
        expect_of (Sign Comma) comma.0 inside.0 comma.2,
        sum_of n inner reads inside.0 e s.0 second inside.2 (ends_before (Sign Close) s.0 rest refl s.2),
        expect_of (Sign Close) s.0 rest s.2,
      ) refl

  marked_of : (ts : List Token) (m : Marked) (rest : List Token) → length ts ≤ suc n → marked m ts rest
      → marked_over inner ts ≡ Read m rest
  unfolding marked_over
  marked_of ts (FromEnds a e) rest fuel s =
      let h : length s.0 ≤ suc n = omega (arith, ap length s.1) in
      rw (s.1, ends_of a e s.0 rest h s.2) refl
  marked_of ts (SystemTime None) rest fuel s = rw (s.1, s.2) refl
  marked_of ts (SystemTime (Some q)) rest fuel s =
      let b = at_name q ts s.1.0 s.1.1 in
      rw (
        eat_none is_name (Word (codes "PERIOD")) ts refl b,
        eat_none is_name (Word (codes "SYSTEM_TIME")) ts refl b,
        qualified_of q ts rest s,
      ) refl

  operand_of : (ts : List Token) (x : Operand) (rest : List Token) → length ts ≤ suc n → operand x ts rest
      → Stops (Sign Dot) rest → operand_over inner ts ≡ Read x rest
  unfolding operand_over
  operand_of ts (ByMark m) rest fuel s stops = rw (marked_begins m ts rest s, marked_of ts m rest fuel s) refl
  operand_of ts (ByName r) rest fuel s stops =
      rw (named_unmarked r ts rest s stops, named_complete ts r rest s stops) refl

  -- after an operand
  relation_test_of : (x : Operand) (r : Relation) (y : Operand) (ts mid rest : List Token) → length ts ≤ suc n
      → relation r ts mid → operand y mid rest → Stops (Sign Dot) rest
      → related_over inner x ts ≡ Read (Some (RelationTest x r y)) rest
  unfolding related_over
  relation_test_of x r y ts mid rest fuel s t stops =
      let h = relation_shortens ts r mid s in
      rw (relation_of r ts mid s, operand_of mid y rest (omega arith) t stops) refl

  contains_of : (x : Operand) (t : Test) (ts mid rest : List Token) → ts ≡ Word (codes "CONTAINS") ∷ mid
      → contained_over inner x mid ≡ Read t rest → related_over inner x ts ≡ Read (Some t) rest
  unfolding related_over relation_at
  contains_of x t ts mid rest is e = rw (is, e) refl

  period_of : (x : Operand) (m : Marked) (ts rest : List Token) → length ts ≤ suc n → marked m ts rest
      → contained_over inner x ts ≡ Read (ContainsPeriod x m) rest
  unfolding contained_over
  period_of x m ts rest fuel s = rw (marked_begins m ts rest s, marked_of ts m rest fuel s) refl

  point_of : (x : Operand) (e : Sum) (ts rest : List Token) → length ts ≤ suc n → expr e ts rest → EndsExpr rest
      → contained_over inner x ts ≡ Read (ContainsPoint x e) rest
  unfolding contained_over
  point_of x e ts rest fuel s ends =
      rw (expr_unmarked e ts rest s ends, sum_of n inner reads ts e rest fuel s ends) refl

  -- after an expression
  compared_of : (e : Sum) (op : Comparison) (b : Sum) (ts mid rest : List Token) → length mid ≤ suc n
      → comparison op ts mid → expr b mid rest → EndsExpr rest
      → test_behind inner e ts ≡ Read (WholeTest (Compared op e b)) rest
  unfolding test_behind
  compared_of e op b ts mid rest fuel s t ends =
      rw (comparison_of op ts mid s, sum_of n inner reads mid b rest fuel t ends) refl

  null_of : (e : Sum) (b : Bool) (ts mid rest : List Token) → negation b ts mid → mid ≡ Word (codes "NULL") ∷ rest
      → null_test_at e ts ≡ Read (NullTest b e) rest
  unfolding null_test_at
  null_of e b ts mid rest not null =
      rw (
        negation_of b (codes "NULL") ts mid rest not null (rw null refl),
        expect_of (Word (codes "NULL")) mid rest
            null,
      ) refl

  -- after an expression: a word and the rest of the test
  is_of : (e : Sum) (t : Test) (ts mid rest : List Token) → ts ≡ Word (codes "IS") ∷ mid
      → null_test_at e mid ≡ Read t rest → test_behind inner e ts ≡ Read (WholeTest t) rest
  unfolding test_behind comparison_at word_test_over
  is_of e t ts mid rest is r = rw (is, r) refl

  not_of : (e : Sum) (t : Test) (ts mid rest : List Token) → ts ≡ Word (codes "NOT") ∷ mid
      → denied_over inner e mid ≡ Read t rest → test_behind inner e ts ≡ Read (WholeTest t) rest
  unfolding test_behind comparison_at word_test_over
  not_of e t ts mid rest is r = rw (is, r) refl

  between_of : (e : Sum) (t : Test) (ts mid rest : List Token) → ts ≡ Word (codes "BETWEEN") ∷ mid
      → between_over inner false e mid ≡ Read t rest → test_behind inner e ts ≡ Read (WholeTest t) rest
  unfolding test_behind comparison_at word_test_over
  between_of e t ts mid rest is r = rw (is, r) refl

  in_of : (e : Sum) (t : Test) (ts mid rest : List Token) → ts ≡ Word (codes "IN") ∷ mid
      → in_over inner false e mid ≡ Read t rest → test_behind inner e ts ≡ Read (WholeTest t) rest
  unfolding test_behind comparison_at word_test_over
  in_of e t ts mid rest is r = rw (is, r) refl

  -- after [NOT] BETWEEN: low AND high
  range_of : (b : Bool) (e low high : Sum) (ts rest : List Token) → length ts ≤ suc n
      → (expr low ⨟ key (codes "AND") ⨟ expr high) ts rest → EndsExpr rest
      → between_over inner b e ts ≡ Read (BetweenTest b e low high) rest
  unfolding between_over
  range_of b e low high ts rest fuel s ends =
      let first = s.1.1 in
      let h = expr_shortens ts low s.1.0 first in
      let shorter : length s.0 ≤ suc n = omega (arith, ap length s.1.2) in
      rw (
        sum_of n inner reads ts low s.1.0 fuel first (ends_before (Word (codes "AND")) s.1.0 s.0 refl s.1.2),
        expect_of (Word (codes "AND")) s.1.0 s.0 s.1.2,
        sum_of n inner reads s.0 high rest shorter s.2 ends,
      ) refl

  next_expr_of : (ts : List Token) (e : Sum) (rest : List Token) → length ts ≤ suc n → behind_comma expr e ts rest
      → EndsExpr rest → next (sum_over inner) ts ≡ Read (Some e) rest
  next_expr_of ts e rest fuel s ends =
      let h : length s.0 ≤ suc n = omega (arith, ap length s.1) in
      behind_some (Sign Comma) (sum_over inner) ts s.0 e rest s.1 (sum_of n inner reads s.0 e rest h s.2 ends)

  more_exprs_of : (es : List Sum) (ts mid rest : List Token) → length ts ≤ suc n → each (behind_comma expr) es ts mid
      → mid ≡ Sign Close ∷ rest → more (next (sum_over inner)) [] ts ≡ Read es mid
  more_exprs_of es ts mid rest fuel s close =
      more_within (suc n) (behind_comma expr) (next (sum_over inner)) EndsExpr next_expr_of
      (λ us e vs w. ends_before (Sign Comma) us w.0 refl w.1) comma_shortens ts es mid fuel s
      (ends_before (Sign Close) mid rest refl close)
      (behind_none (Sign Comma) (sum_over inner) mid (rw close refl))

  -- an expression of a list ends before the further expressions
  behind_list : (es : List Sum) (ts rest : List Token) → each (behind_comma expr) es ts rest → EndsExpr rest
      → EndsExpr ts
  behind_list = commas_front expr (sum_over inner) EndsExpr
      (λ us. ends_before (Sign Comma) (Sign Comma ∷ us) us refl refl)

  -- after [NOT] IN: ( expr {, expr} )
  list_of : (b : Bool) (e x : Sum) (xs : List Sum) (ts rest : List Token) → length ts ≤ suc n
      → in_parens (commas expr x xs) ts rest → in_over inner b e ts ≡ Read (InTest b e x xs) rest
  unfolding in_over
  list_of b e x xs ts rest fuel s =
      let list = s.1.2 in
      let h = expr_shortens s.1.0 x list.0 list.1 in
      let first : length s.1.0 ≤ suc n = omega (arith, ap length s.1.1) in
      let others : length list.0 ≤ suc n = omega (arith, ap length s.1.1) in
      rw (
        expect_of (Sign Open) ts s.1.0 s.1.1,
        sum_of n inner reads s.1.0 x list.0 first list.1
            (behind_list xs list.0 s.0 list.2 (ends_before (Sign Close) s.0 rest refl s.2)),
        more_exprs_of xs list.0 s.0 rest others list.2 s.2,
        expect_of (Sign Close) s.0 rest s.2,
      ) refl

  denied_between_of : (e : Sum) (t : Test) (ts mid rest : List Token) → ts ≡ Word (codes "BETWEEN") ∷ mid
      → between_over inner true e mid ≡ Read t rest → denied_over inner e ts ≡ Read t rest
  unfolding denied_over
  denied_between_of e t ts mid rest is r = rw (is, r) refl

  denied_in_of : (e : Sum) (t : Test) (ts mid rest : List Token) → ts ≡ Word (codes "IN") ∷ mid
      → in_over inner true e mid ≡ Read t rest → denied_over inner e ts ≡ Read t rest
  unfolding denied_over
  denied_in_of e t ts mid rest is r = rw (is, expect_of (Word (codes "IN")) (Word (codes "IN") ∷ mid) mid refl, r) refl

  -- after an expression: [NOT] BETWEEN and the rest of the test
  between_behind : (b : Bool) (e : Sum) (t : Test) (ts a mid rest : List Token) → negation b ts a
      → a ≡ Word (codes "BETWEEN") ∷ mid → between_over inner b e mid ≡ Read t rest
      → test_behind inner e ts ≡ Read (WholeTest t) rest
  between_behind true e t ts a mid rest not is r = not_of e t ts a rest not (denied_between_of e t a mid rest is r)
  between_behind false e t ts a mid rest not is r = between_of e t ts mid rest (not ∙ is) r

  -- after an expression: [NOT] IN and the rest of the test
  in_behind : (b : Bool) (e : Sum) (t : Test) (ts a mid rest : List Token) → negation b ts a
      → a ≡ Word (codes "IN") ∷ mid → in_over inner b e mid ≡ Read t rest
      → test_behind inner e ts ≡ Read (WholeTest t) rest
  in_behind true e t ts a mid rest not is r = not_of e t ts a rest not (denied_in_of e t a mid rest is r)
  in_behind false e t ts a mid rest not is r = in_of e t ts mid rest (not ∙ is) r

  -- after one column reference: a word that relates operands
  word_behind_column : (r : Named) (t : Test) (ts rest : List Token) → Begins relates ts
      → related_over inner (ByName r) ts ≡ Read (Some t) rest
      → word_test_over inner (Terms (Factors (Unsigned (ColumnNamed r)) NoFactor) NoTerm) ts ≡ Read (WholeTest t) rest
  unfolding word_test_over
  word_behind_column r t ts rest b e =
      rw (
        eat_none relates (Word (codes "IS")) ts refl b,
        eat_none relates (Word (codes "NOT")) ts refl b,
        eat_none relates (Word (codes "BETWEEN")) ts refl b,
        eat_none relates (Word (codes "IN")) ts refl b,
        e,
      ) refl

  column_behind : (r : Named) (t : Test) (ts rest : List Token) → Begins relates ts
      → related_over inner (ByName r) ts ≡ Read (Some t) rest
      → test_behind inner (Terms (Factors (Unsigned (ColumnNamed r)) NoFactor) NoTerm) ts ≡ Read (WholeTest t) rest
  unfolding test_behind
  column_behind r t ts rest b e = rw (no_comparison ts b, word_behind_column r t ts rest b e) refl

  -- before `)`, an expression does not continue as a test
  unrelated : (e : Sum) (r : Option Named) (ts rest : List Token) → ts ≡ Sign Close ∷ rest
      → period_test_over inner e r ts ≡ Read (BareExpr e) ts
  unfolding related_over relation_at
  unrelated e None ts rest close = refl
  unrelated e (Some r) ts rest close = rw close refl

  bare_behind : (e : Sum) (ts rest : List Token) → ts ≡ Sign Close ∷ rest
      → test_behind inner e ts ≡ Read (BareExpr e) ts
  unfolding test_behind comparison_at word_test_over
  bare_behind e ts rest close = rw close (unrelated e (as_named e) (Sign Close ∷ rest) rest refl)

  -- and given the rule for the content of parentheses
  module _ (mixed : Parser Mixed) (reads_mixed : ReadsWithin n AtClose mixed_phrase mixed) where
    opened_is : (ts a : List Token) → ts ≡ Sign Open ∷ a → tested_over inner mixed ts ≡ opened_over inner mixed a
    unfolding tested_over
    opened_is ts a is = rw is refl

    opened_of : (m : Mixed) (a b c : List Token) → length a ≤ n → mixed_phrase m a b → b ≡ Sign Close ∷ c
        → opened_over inner mixed a ≡ closed_over inner mixed m c
    unfolding opened_over
    opened_of m a b c fuel s close = rw (reads_mixed a m b fuel s (c, close), expect_of (Sign Close) b c close) refl

    -- an expression that begins with one in parentheses
    enclosed_of : (e : Sum) (fs : MoreFactors) (ms : MoreTerms) (ts mid : List Token) → length ts ≤ suc n
        → expr (Terms (Factors (Unsigned (Enclosed e)) fs) ms) ts mid → EndsExpr mid
        → tested_over inner mixed ts ≡ test_behind inner (Terms (Factors (Unsigned (Enclosed e)) fs) ms) mid
    enclosed_of e fs ms ts mid fuel s ends =
        let term = s.1 in
        let parens = term.1 in
        let a = parens.1.0 in
        let h = expr_shortens a e parens.0 parens.1.2 in
        let inside : length a ≤ n = omega (arith, ap length parens.1.1) in
        let behind : length term.0 ≤ suc n = omega (arith, ap length parens.1.1, ap length parens.2) in
        let first = sum_from_of n inner reads (Enclosed e) fs ms term.0 s.0 mid behind term.2 s.2 ends in
        opened_is ts a parens.1.1 ∙ opened_of (WholeExpr e) a parens.0 term.0 inside parens.1.2 parens.2 ∙ rw first refl

    -- any other expression
    unopened_of : (e : Sum) (ts mid : List Token) → length ts ≤ suc n → expr e ts mid → EndsExpr mid
        → opens e ≡ false → tested_over inner mixed ts ≡ test_behind inner e mid
    unfolding tested_over
    unopened_of e ts mid fuel s ends is =
        rw (
          expr_unmarked e ts mid s ends,
          eat_none (starts_expr (opens e)) (Sign Open) ts is (at_expr e ts mid s),
          sum_of n inner reads ts e mid fuel s ends,
        ) refl

    -- after an expression, the rest of a test is read
    tested_expr_of : (e : Sum) (ts mid : List Token) → length ts ≤ suc n → expr e ts mid → EndsExpr mid
        → tested_over inner mixed ts ≡ test_behind inner e mid
    tested_expr_of (Terms (Factors (Unsigned (Enclosed e)) fs) ms) ts mid fuel s ends =
        enclosed_of e fs ms ts mid fuel s ends
    tested_expr_of e ts mid fuel s ends = unopened_of e ts mid fuel s ends refl

    marked_test_of : (m : Marked) (t : Test) (ts mid rest : List Token) → length ts ≤ suc n → marked m ts mid
        → related_over inner (ByMark m) mid ≡ Read (Some t) rest → tested_over inner mixed ts ≡ Read (WholeTest t) rest
    unfolding tested_over marked_test_over
    marked_test_of m t ts mid rest fuel s e = rw (marked_begins m ts mid s, marked_of ts m mid fuel s, e) refl

    related_test_of : (x : Operand) (t : Test) (ts mid rest : List Token) → length ts ≤ suc n → operand x ts mid
        → Begins relates mid → related_over inner x mid ≡ Read (Some t) rest
        → tested_over inner mixed ts ≡ Read (WholeTest t) rest
    related_test_of (ByMark m) t ts mid rest fuel s b e = marked_test_of m t ts mid rest fuel s e
    related_test_of (ByName r) t ts mid rest fuel s b e =
        tested_expr_of (Terms (Factors (Unsigned (ColumnNamed r)) NoFactor) NoTerm) ts mid fuel
        (mid, (mid, s, refl), refl) (relates_ends mid b)
        ∙ column_behind r t mid rest b e

    between_test_of : (b : Bool) (e low high : Sum) (ts rest : List Token) → length ts ≤ suc n
        → test (BetweenTest b e low high) ts rest → EndsExpr rest
        → tested_over inner mixed ts ≡ Read (WholeTest (BetweenTest b e low high)) rest
    between_test_of b e low high ts rest fuel s ends =
        let first = s.1.1 in
        let not = first.1.1 in
        let h = expr_shortens ts e not.0 not.1 in
        let k = negation_within b not.0 first.1.0 not.2 in
        let shorter : length first.0 ≤ suc n = omega (arith, ap length first.1.2) in
        let range = range_of b e low high first.0 rest shorter (s.0, (s.1.0, first.2, s.1.2), s.2) ends in
        tested_expr_of e ts not.0 fuel not.1
        (ends_at not.0 (negation_front b (codes "BETWEEN") not.0 first.1.0 first.0 not.2 first.1.2))
        ∙ between_behind b e (BetweenTest b e low high) not.0 first.1.0 first.0 rest not.2 first.1.2 range

    in_test_of : (b : Bool) (e x : Sum) (xs : List Sum) (ts rest : List Token) → length ts ≤ suc n
        → test (InTest b e x xs) ts rest → tested_over inner mixed ts ≡ Read (WholeTest (InTest b e x xs)) rest
    in_test_of b e x xs ts rest fuel s =
        let not = s.1.1 in
        let h = expr_shortens ts e not.0 not.1 in
        let k = negation_within b not.0 s.1.0 not.2 in
        let shorter : length s.0 ≤ suc n = omega (arith, ap length s.1.2) in
        tested_expr_of e ts not.0 fuel not.1 (ends_at not.0 (negation_front b (codes "IN") not.0 s.1.0 s.0 not.2 s.1.2))
        ∙ in_behind b e (InTest b e x xs) not.0 s.1.0 s.0 rest not.2 s.1.2 (list_of b e x xs s.0 rest shorter s.2)

    whole_test_of : (ts : List Token) (t : Test) (rest : List Token) → length ts ≤ suc n → test t ts rest
        → EndsExpr rest → tested_over inner mixed ts ≡ Read (WholeTest t) rest
    whole_test_of ts (Grouped c) rest fuel s ends =
        let inside : length s.1.0 ≤ n = omega (arith, ap length s.1.1) in
        opened_is ts s.1.0 s.1.1 ∙ opened_of (WholeCondition c) s.1.0 s.0 rest inside s.1.2 s.2
    whole_test_of ts (Compared op a b) rest fuel s ends =
        let h = expr_shortens ts a s.1.0 s.1.1 in
        let k = comparison_shortens s.1.0 op s.0 s.1.2 in
        tested_expr_of a ts s.1.0 fuel s.1.1 (ends_at s.1.0 (comparison_front op s.1.0 s.0 s.1.2))
        ∙ compared_of a op b s.1.0 s.0 rest (omega arith) s.1.2 s.2 ends
    whole_test_of ts (NullTest b a) rest fuel s ends =
        let is = s.1.1 in
        tested_expr_of a ts is.0 fuel is.1 (ends_before (Word (codes "IS")) is.0 s.1.0 refl is.2)
        ∙ is_of a (NullTest b a) is.0 s.1.0 rest is.2 (null_of a b s.1.0 s.0 rest s.1.2 s.2)
    whole_test_of ts (BetweenTest b a low high) rest fuel s ends = between_test_of b a low high ts rest fuel s ends
    whole_test_of ts (InTest b a x xs) rest fuel s ends = in_test_of b a x xs ts rest fuel s
    whole_test_of ts (RelationTest x r y) rest fuel s ends =
        let h = operand_shortens ts x s.1.0 s.1.1 in
        related_test_of x (RelationTest x r y) ts s.1.0 rest fuel s.1.1 (relation_front r s.1.0 s.0 s.1.2)
        (relation_test_of x r y s.1.0 s.0 rest (omega arith) s.1.2 s.2 ends.dot)
    whole_test_of ts (ContainsPeriod x m) rest fuel s ends =
        let h = operand_shortens ts x s.1.0 s.1.1 in
        let shorter : length s.0 ≤ suc n = omega (arith, ap length s.1.2) in
        related_test_of x (ContainsPeriod x m) ts s.1.0 rest fuel s.1.1
        (at_token relates (Word (codes "CONTAINS")) s.1.0 s.0 refl s.1.2)
        (contains_of x (ContainsPeriod x m) s.1.0 s.0 rest s.1.2 (period_of x m s.0 rest shorter s.2))
    whole_test_of ts (ContainsPoint x e) rest fuel s ends =
        let h = operand_shortens ts x s.1.0 s.1.1 in
        let shorter : length s.0 ≤ suc n = omega (arith, ap length s.1.2) in
        related_test_of x (ContainsPoint x e) ts s.1.0 rest fuel s.1.1
        (at_token relates (Word (codes "CONTAINS")) s.1.0 s.0 refl s.1.2)
        (contains_of x (ContainsPoint x e) s.1.0 s.0 rest s.1.2 (point_of x e s.0 rest shorter s.2 ends))

    test_of : ReadsWithin (suc n) EndsExpr test (test_over inner mixed)
    unfolding test_over
    test_of ts t rest fuel s ends = rw (whole_test_of ts t rest fuel s ends) refl

    factor_of : ReadsWithin (suc n) EndsExpr factor (factor_over inner mixed)
    unfolding factor_over
    factor_of ts (Straight t) rest fuel s ends =
        rw (eat_not (Word (codes "NOT")) ts (stops_test t ts rest s), test_of ts t rest fuel s ends) refl
    factor_of ts (Negated t) rest fuel s ends =
        let h : length s.0 ≤ suc n = omega (arith, ap length s.1) in
        rw (s.1, test_of s.0 t rest h s.2 ends) refl

    next_test_of : (ts : List Token) (f : Factor) (rest : List Token) → length ts ≤ suc n
        → (key (codes "AND") ⨟ factor f) ts rest → EndsExpr rest → next_test inner mixed ts ≡ Read (Some f) rest
    unfolding next_test
    next_test_of ts f rest fuel s ends =
        let h : length s.0 ≤ suc n = omega (arith, ap length s.1) in
        behind_some (Word (codes "AND")) (factor_over inner mixed) ts s.0 f rest s.1 (factor_of s.0 f rest h s.2 ends)

    no_test : (ts : List Token) → Stops (Word (codes "AND")) ts → next_test inner mixed ts ≡ Read None ts
    unfolding next_test
    no_test ts stops = behind_none (Word (codes "AND")) (factor_over inner mixed) ts stops

    more_tests_of : (ts : List Token) (m : MoreTests) (rest : List Token) → length ts ≤ suc n → more_tests m ts rest
        → EndsConj rest → more (next_test inner mixed) [] ts ≡ Read (test_list m) rest
    more_tests_of ts m rest fuel s ends =
        more_within (suc n) (λ f. key (codes "AND") ⨟ factor f) (next_test inner mixed) EndsExpr next_test_of
        (λ us f vs w. ends_before (Word (codes "AND")) us w.0 refl w.1) and_shortens ts (test_list m) rest fuel
        (tests_each m ts rest s) ends.expr (no_test rest ends.also)

    conj_behind_of : (f : Factor) (ts : List Token) (m : MoreTests) (rest : List Token) → length ts ≤ suc n
        → more_tests m ts rest → EndsConj rest → conj_behind inner mixed f ts ≡ Read (AllOf f m) rest
    unfolding conj_behind
    conj_behind_of f ts m rest fuel s ends =
        rw (more_tests_of ts m rest fuel s ends) (ap (λ (l : MoreTests). Read (AllOf f l) rest) (tests_back m))

    conj_of : ReadsWithin (suc n) EndsConj conj (conj_over inner mixed)
    unfolding conj_over
    conj_of ts (AllOf f m) rest fuel s ends =
        let h = factor_shortens ts f s.0 s.1 in
        rw (factor_of ts f s.0 fuel s.1 (tests_front m s.0 rest s.2 ends.expr))
        (conj_behind_of f s.0 m rest (omega arith) s.2 ends)

    next_conj_of : (ts : List Token) (c : Conj) (rest : List Token) → length ts ≤ suc n
        → (key (codes "OR") ⨟ conj c) ts rest → EndsConj rest → next_conj inner mixed ts ≡ Read (Some c) rest
    unfolding next_conj
    next_conj_of ts c rest fuel s ends =
        let h : length s.0 ≤ suc n = omega (arith, ap length s.1) in
        behind_some (Word (codes "OR")) (conj_over inner mixed) ts s.0 c rest s.1 (conj_of s.0 c rest h s.2 ends)

    no_conj : (ts : List Token) → Stops (Word (codes "OR")) ts → next_conj inner mixed ts ≡ Read None ts
    unfolding next_conj
    no_conj ts stops = behind_none (Word (codes "OR")) (conj_over inner mixed) ts stops

    more_conjs_of : (ts : List Token) (m : MoreConjs) (rest : List Token) → length ts ≤ suc n → more_conjs m ts rest
        → EndsCondition rest → more (next_conj inner mixed) [] ts ≡ Read (conj_list m) rest
    more_conjs_of ts m rest fuel s ends =
        more_within (suc n) (λ c. key (codes "OR") ⨟ conj c) (next_conj inner mixed) EndsConj next_conj_of
        (λ us c vs w. or_front us w.0 w.1) or_shortens ts (conj_list m) rest fuel (conjs_each m ts rest s)
        (ends_conj rest ends) (no_conj rest ends.or)

    -- the rest of the condition that begins with this factor
    condition_behind_of : (f : Factor) (ts : List Token) (m : MoreTests) (mid : List Token) (k : MoreConjs)
        (rest : List Token) → length ts ≤ suc n → more_tests m ts mid → more_conjs k mid rest → EndsCondition rest
        → condition_behind inner mixed f ts ≡ Read (AnyOf (AllOf f m) k) rest
    unfolding condition_behind
    condition_behind_of f ts m mid k rest fuel s t ends =
        let h = more_tests_within ts m mid s in
        rw (
          conj_behind_of f ts m mid fuel s (conjs_front k mid rest t (ends_conj rest ends)),
          more_conjs_of mid k
              rest (omega arith) t ends,
        )
        (ap (λ (l : MoreConjs). Read (AnyOf (AllOf f m) l) rest) (conjs_back k))

    condition_of : ReadsWithin (suc n) EndsCondition condition (condition_over inner mixed)
    unfolding condition_over
    condition_of ts (AnyOf (AllOf f m) k) rest fuel s ends =
        let first = s.1 in
        let h = factor_shortens ts f first.0 first.1 in
        let behind = conjs_front k s.0 rest s.2 (ends_conj rest ends) in
        rw (factor_of ts f first.0 fuel first.1 (tests_front m first.0 s.0 first.2 behind.expr))
        (condition_behind_of f first.0 m s.0 k rest (omega arith) first.2 s.2 ends)

    mixed_condition_of : (ts : List Token) (c : Condition) (rest : List Token) → length ts ≤ suc n
        → condition c ts rest → EndsCondition rest → mixed_over inner mixed ts ≡ Read (WholeCondition c) rest
    unfolding mixed_over
    mixed_condition_of ts (AnyOf (AllOf (Straight t) m) k) rest fuel s ends =
        let first = s.1 in
        let h = test_shortens ts t first.0 first.1 in
        let behind = conjs_front k s.0 rest s.2 (ends_conj rest ends) in
        rw (
          eat_not (Word (codes "NOT")) ts (stops_test t ts first.0 first.1),
          whole_test_of ts t first.0 fuel first.1 (tests_front m first.0 s.0 first.2 behind.expr),
          condition_behind_of (Straight t) first.0 m s.0 k rest (omega arith) first.2 s.2 ends,
        ) refl
    mixed_condition_of ts (AnyOf (AllOf (Negated t) m) k) rest fuel s ends =
        let first = s.1 in
        let not = first.1 in
        let h = test_shortens not.0 t first.0 not.2 in
        let inside : length not.0 ≤ suc n = omega (arith, ap length not.1) in
        let behind = conjs_front k s.0 rest s.2 (ends_conj rest ends) in
        rw (
          not.1,
          test_of not.0 t first.0 inside not.2 (tests_front m first.0 s.0 first.2 behind.expr),
          condition_behind_of (Negated t) first.0 m s.0 k rest (omega arith) first.2 s.2 ends,
        ) refl

    mixed_expr_of : (ts : List Token) (e : Sum) (rest : List Token) → length ts ≤ suc n → expr e ts rest
        → AtClose rest → mixed_over inner mixed ts ≡ Read (WholeExpr e) rest
    unfolding mixed_over
    mixed_expr_of ts e rest fuel s close =
        let behind = tested_expr_of e ts rest fuel s (ends_before (Sign Close) rest close.0 refl close.1)
        ∙ bare_behind e rest close.0 close.1 in
        rw (eat_not (Word (codes "NOT")) ts (stops_expr e ts rest s), behind) refl

    mixed_of : ReadsWithin (suc n) AtClose mixed_phrase (mixed_over inner mixed)
    mixed_of ts (WholeCondition c) rest fuel s close = mixed_condition_of ts c rest fuel s (close_ends rest close)
    mixed_of ts (WholeExpr e) rest fuel s close = mixed_expr_of ts e rest fuel s close

mixed_shortens : Shortens mixed_phrase
mixed_shortens ts (WholeCondition c) rest s = condition_shortens ts c rest s
mixed_shortens ts (WholeExpr e) rest s = expr_shortens ts e rest s

mixed_at_of : (n : ℕ) → ReadsWithin n AtClose mixed_phrase (mixed_at n)
unfolding mixed_at
mixed_at_of zero ts m rest fuel s close = let h = mixed_shortens ts m rest s in absurd (omega arith)
mixed_at_of (suc n) ts m rest fuel s close =
    mixed_of n (expr_at n) (expr_at_of n) (mixed_at n) (mixed_at_of n) ts m rest fuel s close

condition_at_of : (n : ℕ) → ReadsWithin n EndsCondition condition (condition_at n)
unfolding condition_at
condition_at_of zero ts c rest fuel s ends = let h = condition_shortens ts c rest s in absurd (omega arith)
condition_at_of (suc n) ts c rest fuel s ends =
    condition_of n (expr_at n) (expr_at_of n) (mixed_at n) (mixed_at_of n) ts c rest fuel s ends

pub condition_complete : CompleteBefore EndsCondition condition condition_here
condition_complete ts c rest s ends = condition_at_of (length ts) ts c rest (omega arith) s ends
