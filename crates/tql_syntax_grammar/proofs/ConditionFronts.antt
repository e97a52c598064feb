-- The first tokens of conditions and periods, and how many tokens they take.
use Rattle.std.specs.Prelude.{◌≡◌, refl, ◌<◌, ◌≤◌, Bool, true, false, ◌&&◌, List, [], ◌∷◌, codes, length, Option}
use Rattle.std.specs.Prelude.{Some, None}
use Rattle.std.specs.List.{list_any}
use Rattle.std.proofs.Common.{◌∙◌, ap, arith, inl, inr}
use Rattle.tql_spec.specs.Words.{same_text}
use Rattle.tql_spec.specs.Datum.{Comparison, Equals, Differs, Below, AtMost, Above, AtLeast}
use Rattle.tql_spec.specs.Period.{Relation, Overlaps, Includes, SameAs, Precedes, Succeeds, ImmediatelyPrecedes}
use Rattle.tql_spec.specs.Period.{ImmediatelySucceeds}
use Rattle.tql_spec.specs.Expression.{Function, Count, Min, Max}
use Rattle.tql_spec.specs.Expression as bound
use Rattle.tql_spec.specs.Definition.{Name}
use Rattle.tql_spec.specs.Token.{Token, Word, Sign, Dot, PlusSign, MinusSign, Star, EqualSign, UnequalSign, LessSign}
use Rattle.tql_spec.specs.Token.{AtMostSign, MoreSign, AtLeastSign}
use Rattle.tql_spec.specs.Syntax.{Named, Sum, Product, Terms, Factors, Signed, Unsigned, Positive, Negative, Primary}
use Rattle.tql_spec.specs.Syntax.{NumberLiteral, TextLiteral, DateLiteral, TimestampLiteral, ColumnNamed, Enclosed}
use Rattle.tql_spec.specs.Syntax.{CountStar, Over, Marked, FromEnds, SystemTime, Operand, ByMark, ByName, Condition}
use Rattle.tql_spec.specs.Syntax.{AnyOf, MoreConjs, NoConj, OrConj, Conj, AllOf, MoreTests, NoTest, AndTest, Factor}
use Rattle.tql_spec.specs.Syntax.{Straight, Negated, Test, Grouped, Compared, NullTest, BetweenTest, InTest}
use Rattle.tql_spec.specs.Syntax.{RelationTest, ContainsPeriod, ContainsPoint}
use Rattle.tql_spec.specs.Grammar.{sign, ◌⨟◌, optional, name, named, function_name, expr, term, signed, primary}
use Rattle.tql_spec.specs.Grammar.{comparison, relation, marked, operand, negation, condition, more_conjs, conj}
use Rattle.tql_spec.specs.Grammar.{more_tests, factor, test}
use Rattle.tql_syntax_grammar.specs.Outcome.{is_name, begins, begins_second, begins_third, begins_name}
use Rattle.tql_syntax_grammar.specs.ReadingExpressions.{expr_here, begins_marked}
use Rattle.tql_syntax_grammar.proofs.Ends.{EndsExpr}
use Rattle.tql_syntax_grammar.proofs.Steps.{Shortens, Stops, name_begins, begins_eat, commas_shortens}
use Rattle.tql_syntax_grammar.proofs.FirstTokens.{Begins, stops_at, at_token, at_name, starts_expr, ends_expr}
use Rattle.tql_syntax_grammar.proofs.ExpressionLaws.{named_shortens, qualifier_within, at_named, opens, at_expr}
use Rattle.tql_syntax_grammar.proofs.ExpressionLaws.{expr_shortens, factor_end, term_end}

-- ---- conditions take a token

pub comparison_shortens : Shortens comparison
comparison_shortens ts Equals rest s = omega (arith, ap length s)
comparison_shortens ts Differs rest s = omega (arith, ap length s)
comparison_shortens ts Below rest s = omega (arith, ap length s)
comparison_shortens ts AtMost rest s = omega (arith, ap length s)
comparison_shortens ts Above rest s = omega (arith, ap length s)
comparison_shortens ts AtLeast rest s = omega (arith, ap length s)

pub relation_shortens : Shortens relation
relation_shortens ts Overlaps rest s = omega (arith, ap length s)
relation_shortens ts SameAs rest s = omega (arith, ap length s)
relation_shortens ts Precedes rest s = omega (arith, ap length s)
relation_shortens ts Succeeds rest s = omega (arith, ap length s)
relation_shortens ts ImmediatelyPrecedes rest s = omega (arith, ap length s.1, ap length s.2)
relation_shortens ts ImmediatelySucceeds rest s = omega (arith, ap length s.1, ap length s.2)
relation_shortens ts Includes rest s = absurd s

pub marked_shortens : Shortens marked
marked_shortens ts (FromEnds a e) rest s =
    let inside = s.2.1.2 in
    let first = expr_shortens s.2.1.0 a inside.1.0 inside.1.1 in
    let second = expr_shortens inside.0 e s.2.0 inside.2 in
    omega (arith, ap length s.1, ap length s.2.1.1, ap length inside.1.2, ap length s.2.2)
marked_shortens ts (SystemTime q) rest s = let h = qualifier_within q ts s.0 s.1 in omega (arith, ap length s.2)

pub operand_shortens : Shortens operand
operand_shortens ts (ByMark m) rest s = marked_shortens ts m rest s
operand_shortens ts (ByName r) rest s = named_shortens ts r rest s

pub negation_within : (b : Bool) (ts rest : List Token) → negation b ts rest → length rest ≤ length ts
negation_within true ts rest s = omega (arith, ap length s)
negation_within false ts rest s = omega (arith, ap length s)

mutual
  pub condition_shortens : (ts : List Token) (c : Condition) (rest : List Token) → condition c ts rest
      → length rest < length ts
  condition_shortens ts (AnyOf c more) rest s =
      let a = conj_shortens ts c s.0 s.1 in
      let b = more_conjs_within s.0 more rest s.2 in
      omega arith

  more_conjs_within : (ts : List Token) (m : MoreConjs) (rest : List Token) → more_conjs m ts rest
      → length rest ≤ length ts
  more_conjs_within ts NoConj rest s = omega (arith, ap length s)
  more_conjs_within ts (OrConj c more) rest s =
      let a = conj_shortens s.1.0 c s.0 s.1.2 in
      let b = more_conjs_within s.0 more rest s.2 in
      omega (arith, ap length s.1.1)

  pub conj_shortens : (ts : List Token) (c : Conj) (rest : List Token) → conj c ts rest → length rest < length ts
  conj_shortens ts (AllOf f more) rest s =
      let a = factor_shortens ts f s.0 s.1 in
      let b = more_tests_within s.0 more rest s.2 in
      omega arith

  pub more_tests_within : (ts : List Token) (m : MoreTests) (rest : List Token) → more_tests m ts rest
      → length rest ≤ length ts
  more_tests_within ts NoTest rest s = omega (arith, ap length s)
  more_tests_within ts (AndTest f more) rest s =
      let a = factor_shortens s.1.0 f s.0 s.1.2 in
      let b = more_tests_within s.0 more rest s.2 in
      omega (arith, ap length s.1.1)

  pub factor_shortens : (ts : List Token) (f : Factor) (rest : List Token) → factor f ts rest → length rest < length ts
  factor_shortens ts (Straight t) rest s = test_shortens ts t rest s
  factor_shortens ts (Negated t) rest s = let a = test_shortens s.0 t rest s.2 in omega (arith, ap length s.1)

  pub test_shortens : (ts : List Token) (t : Test) (rest : List Token) → test t ts rest → length rest < length ts
  test_shortens ts (Grouped c) rest s =
      let a = condition_shortens s.1.0 c s.0 s.1.2 in
      omega (arith, ap length s.1.1, ap length s.2)
  test_shortens ts (Compared op a b) rest s =
      let first = expr_shortens ts a s.1.0 s.1.1 in
      let second = expr_shortens s.0 b rest s.2 in
      let between = comparison_shortens s.1.0 op s.0 s.1.2 in
      omega arith
  test_shortens ts (NullTest n a) rest s =
      let first = expr_shortens ts a s.1.1.0 s.1.1.1 in
      let h = negation_within n s.1.0 s.0 s.1.2 in
      omega (arith, ap length s.1.1.2, ap length s.2)
  test_shortens ts (BetweenTest n a b c) rest s =
      let first = expr_shortens ts a s.1.1.1.1.0 s.1.1.1.1.1 in
      let h = negation_within n s.1.1.1.1.0 s.1.1.1.0 s.1.1.1.1.2 in
      let second = expr_shortens s.1.1.0 b s.1.0 s.1.1.2 in
      let third = expr_shortens s.0 c rest s.2 in
      omega (arith, ap length s.1.1.1.2, ap length s.1.2)
  test_shortens ts (InTest n a b bs) rest s =
      let first = expr_shortens ts a s.1.1.0 s.1.1.1 in
      let h = negation_within n s.1.1.0 s.1.0 s.1.1.2 in
      let list = commas_shortens expr expr_here expr_shortens b bs s.2.1.0 s.2.0 s.2.1.2 in
      omega (arith, ap length s.1.2, ap length s.2.1.1, ap length s.2.2)
  test_shortens ts (RelationTest x r y) rest s =
      let first = operand_shortens ts x s.1.0 s.1.1 in
      let h = relation_shortens s.1.0 r s.0 s.1.2 in
      let second = operand_shortens s.0 y rest s.2 in
      omega arith
  test_shortens ts (ContainsPeriod x m) rest s =
      let first = operand_shortens ts x s.1.0 s.1.1 in
      let second = marked_shortens s.0 m rest s.2 in
      omega (arith, ap length s.1.2)
  test_shortens ts (ContainsPoint x e) rest s =
      let first = operand_shortens ts x s.1.0 s.1.1 in
      let second = expr_shortens s.0 e rest s.2 in
      omega (arith, ap length s.1.2)

-- ---- the first tokens of a marked period

second_behind_name : (t : Token) (n : Name) (ts rest : List Token) → name n ts rest → begins_second t ts ≡ begins t rest
second_behind_name t n ts rest s = elim s [ inl w ↦ rw w.0 refl | inr q ↦ rw q refl ]

third_behind_name : (t : Token) (n : Name) (ts rest : List Token) → name n ts rest
    → begins_third t ts ≡ begins_second t rest
third_behind_name t n ts rest s = elim s [ inl w ↦ rw w.0 refl | inr q ↦ rw q refl ]

-- a token that fails the test does not begin the list
begins_none : (test : Token → Bool) (t : Token) (ts : List Token) → test t ≡ false → Begins test ts
    → begins t ts ≡ false
begins_none test t ts fails b = begins_eat t ts ∙ stops_at test t ts fails b

pub marked_begins : (m : Marked) (ts rest : List Token) → marked m ts rest → begins_marked ts ≡ true
marked_begins (FromEnds a e) ts rest s = rw s.1 refl
marked_begins (SystemTime None) ts rest s = rw (s.1, s.2) refl
marked_begins (SystemTime (Some n)) ts rest s =
    let b = at_name n ts s.1.0 s.1.1 in
    rw (
      begins_none is_name (Word (codes "PERIOD")) ts refl b,
      begins_none is_name (Word (codes "SYSTEM_TIME")) ts refl b,
      name_begins n ts s.1.0 s.1.1,
      second_behind_name (Sign Dot) n ts s.1.0 s.1.1,
      third_behind_name (Word (codes "SYSTEM_TIME")) n ts s.1.0 s.1.1,
      s.1.2,
      s.2,
    ) refl

-- whether a name, a dot and SYSTEM_TIME are in front
abbrev begins_qualified : List Token → Bool
begins_qualified ts = begins_name ts && (begins_second (Sign Dot) ts && begins_third (Word (codes "SYSTEM_TIME")) ts)

-- no marked period is in front, if PERIOD, SYSTEM_TIME and a qualified SYSTEM_TIME are not
unmarked_by : (test : Token → Bool) (ts : List Token) → test (Word (codes "PERIOD")) ≡ false
    → test (Word (codes "SYSTEM_TIME")) ≡ false → Begins test ts → begins_qualified ts ≡ false
    → begins_marked ts ≡ false
unmarked_by test ts period system b qualified =
    rw (
      begins_none test (Word (codes "PERIOD")) ts period b,
      begins_none test (Word (codes "SYSTEM_TIME")) ts system
          b,
      qualified,
    ) refl

named_unqualified : (q : Option Name) (n : Name) (ts mid rest : List Token)
    → optional (λ m. name m ⨟ sign Dot) q ts mid → name n mid rest → Stops (Sign Dot) rest → begins_qualified ts ≡ false
named_unqualified None n ts mid rest s name stops =
    rw (
      s,
      name_begins n mid rest name,
      second_behind_name (Sign Dot) n mid rest name,
      begins_eat (Sign Dot) rest,
      stops,
    ) refl
named_unqualified (Some q) n ts mid rest s name stops =
    rw (
      name_begins q ts s.0 s.1,
      second_behind_name (Sign Dot) q ts s.0 s.1,
      third_behind_name (Word (codes "SYSTEM_TIME")) q ts s.0 s.1,
      s.2,
      begins_none is_name (Word (codes "SYSTEM_TIME")) mid refl (at_name n mid rest name),
    ) refl

qualified_none : (r : Named) (ts rest : List Token) → named r ts rest → Stops (Sign Dot) rest
    → begins_qualified ts ≡ false
qualified_none r ts rest s stops = named_unqualified r.qualifier r.name ts s.0 rest s.1 s.2 stops

pub named_unmarked : (r : Named) (ts rest : List Token) → named r ts rest → Stops (Sign Dot) rest
    → begins_marked ts ≡ false
named_unmarked r ts rest s stops =
    unmarked_by is_name ts refl refl (at_named r ts rest s) (qualified_none r ts rest s stops)

function_unqualified : (f : Function) (ts rest : List Token) → function_name f ts rest → begins_qualified ts ≡ false
function_unqualified Count ts rest s = rw s refl
function_unqualified bound.Sum ts rest s = rw s refl
function_unqualified Min ts rest s = rw s refl
function_unqualified Max ts rest s = rw s refl

primary_unqualified : (p : Primary) (ts rest : List Token) → primary p ts rest → Stops (Sign Dot) rest
    → begins_qualified ts ≡ false
primary_unqualified (NumberLiteral ds) ts rest s stops = rw s refl
primary_unqualified (TextLiteral t) ts rest s stops = rw s refl
primary_unqualified (DateLiteral t) ts rest s stops = rw s.1 refl
primary_unqualified (TimestampLiteral t) ts rest s stops = rw s.1 refl
primary_unqualified (ColumnNamed r) ts rest s stops = qualified_none r ts rest s stops
primary_unqualified (Enclosed e) ts rest s stops = rw s.1.1 refl
primary_unqualified CountStar ts rest s stops = rw s.1 refl
primary_unqualified (Over f e) ts rest s stops = function_unqualified f ts s.1.1.0 s.1.1.1

signed_unqualified : (f : Signed) (ts rest : List Token) → signed f ts rest → Stops (Sign Dot) rest
    → begins_qualified ts ≡ false
signed_unqualified (Unsigned p) ts rest s stops = primary_unqualified p ts rest s stops
signed_unqualified (Positive p) ts rest s stops = rw s.1 refl
signed_unqualified (Negative p) ts rest s stops = rw s.1 refl

term_unqualified : (t : Product) (ts rest : List Token) → term t ts rest → Stops (Sign Dot) rest
    → begins_qualified ts ≡ false
term_unqualified (Factors f more) ts rest s stops = signed_unqualified f ts s.0 s.1 (factor_end more s.0 rest s.2 stops)

expr_unqualified : (e : Sum) (ts rest : List Token) → expr e ts rest → EndsExpr rest → begins_qualified ts ≡ false
expr_unqualified (Terms t more) ts rest s ends = term_unqualified t ts s.0 s.1 (term_end more s.0 rest s.2 ends).dot

pub expr_unmarked : (e : Sum) (ts rest : List Token) → expr e ts rest → EndsExpr rest → begins_marked ts ≡ false
expr_unmarked e ts rest s ends =
    unmarked_by (starts_expr (opens e)) ts refl refl (at_expr e ts rest s) (expr_unqualified e ts rest s ends)

-- ---- NOT is in front of no test

stops_marked : (m : Marked) (ts rest : List Token) → marked m ts rest → Stops (Word (codes "NOT")) ts
stops_marked (FromEnds a e) ts rest s = rw s.1 refl
stops_marked (SystemTime None) ts rest s = rw (s.1, s.2) refl
stops_marked (SystemTime (Some n)) ts rest s = stops_at is_name (Word (codes "NOT")) ts refl (at_name n ts s.1.0 s.1.1)

stops_operand : (x : Operand) (ts rest : List Token) → operand x ts rest → Stops (Word (codes "NOT")) ts
stops_operand (ByMark m) ts rest s = stops_marked m ts rest s
stops_operand (ByName r) ts rest s = stops_at is_name (Word (codes "NOT")) ts refl (at_named r ts rest s)

pub stops_expr : (e : Sum) (ts rest : List Token) → expr e ts rest → Stops (Word (codes "NOT")) ts
stops_expr e ts rest s = stops_at (starts_expr (opens e)) (Word (codes "NOT")) ts refl (at_expr e ts rest s)

pub stops_test : (t : Test) (ts rest : List Token) → test t ts rest → Stops (Word (codes "NOT")) ts
stops_test (Grouped c) ts rest s = rw s.1.1 refl
stops_test (Compared op a b) ts rest s = stops_expr a ts s.1.0 s.1.1
stops_test (NullTest n a) ts rest s = stops_expr a ts s.1.1.0 s.1.1.1
stops_test (BetweenTest n a b c) ts rest s = stops_expr a ts s.1.1.1.1.0 s.1.1.1.1.1
stops_test (InTest n a b bs) ts rest s = stops_expr a ts s.1.1.0 s.1.1.1
stops_test (RelationTest x r y) ts rest s = stops_operand x ts s.1.0 s.1.1
stops_test (ContainsPeriod x m) ts rest s = stops_operand x ts s.1.0 s.1.1
stops_test (ContainsPoint x e) ts rest s = stops_operand x ts s.1.0 s.1.1

-- ---- after an expression or an operand

-- an expression ends before a comparison
pub comparison_front : (op : Comparison) (ts rest : List Token) → comparison op ts rest → Begins ends_expr ts
comparison_front Equals ts rest s = at_token ends_expr (Sign EqualSign) ts rest refl s
comparison_front Differs ts rest s = at_token ends_expr (Sign UnequalSign) ts rest refl s
comparison_front Below ts rest s = at_token ends_expr (Sign LessSign) ts rest refl s
comparison_front AtMost ts rest s = at_token ends_expr (Sign AtMostSign) ts rest refl s
comparison_front Above ts rest s = at_token ends_expr (Sign MoreSign) ts rest refl s
comparison_front AtLeast ts rest s = at_token ends_expr (Sign AtLeastSign) ts rest refl s

-- an expression ends before [NOT] and a word
pub negation_front : (b : Bool) (w : Name) (ts mid rest : List Token) → negation b ts mid → mid ≡ Word w ∷ rest
    → Begins ends_expr ts
negation_front true w ts mid rest s is = at_token ends_expr (Word (codes "NOT")) ts mid refl s
negation_front false w ts mid rest s is = at_token ends_expr (Word w) ts rest refl (s ∙ is)

-- whether a token may follow an operand in a test
abbrev pub relates : Token → Bool
relates (Word w) =
    list_any (same_text w)
    (codes "OVERLAPS" ∷ codes "EQUALS" ∷ codes "PRECEDES" ∷ codes "SUCCEEDS" ∷ codes "IMMEDIATELY" ∷ codes "CONTAINS"
    ∷ [])
relates _ = false

pub relation_front : (r : Relation) (ts rest : List Token) → relation r ts rest → Begins relates ts
relation_front Overlaps ts rest s = at_token relates (Word (codes "OVERLAPS")) ts rest refl s
relation_front SameAs ts rest s = at_token relates (Word (codes "EQUALS")) ts rest refl s
relation_front Precedes ts rest s = at_token relates (Word (codes "PRECEDES")) ts rest refl s
relation_front Succeeds ts rest s = at_token relates (Word (codes "SUCCEEDS")) ts rest refl s
relation_front ImmediatelyPrecedes ts rest s = at_token relates (Word (codes "IMMEDIATELY")) ts s.0 refl s.1
relation_front ImmediatelySucceeds ts rest s = at_token relates (Word (codes "IMMEDIATELY")) ts s.0 refl s.1
relation_front Includes ts rest s = absurd s

-- a word that relates two operands ends an expression
pub relates_ends : (ts : List Token) → Begins relates ts → EndsExpr ts
relates_ends ts b = record {
  dot = stops_at relates (Sign Dot) ts refl b;
  star = stops_at relates (Sign Star) ts refl b;
  plus = stops_at relates (Sign PlusSign) ts refl b;
  minus = stops_at relates (Sign MinusSign) ts refl b;
}
