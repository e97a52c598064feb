-- Whether an expression or a condition, as written, names none of a list of names and no system period.
use Rattle.std.specs.Prelude.{Bool, true, false, not, ◌&&◌, List, Option, Some, None}
use Rattle.std.specs.List.{list_all}
use Rattle.tql_spec.specs.Definition.{Name}
use Rattle.tql_spec.specs.Creation.{has_name}
use Rattle.tql_spec.specs.Syntax.{Sum, Terms, MoreTerms, NoTerm, PlusTerm, MinusTerm, Product, Factors, MoreFactors}
use Rattle.tql_spec.specs.Syntax.{NoFactor, TimesFactor, Signed, Unsigned, Positive, Negative, Primary, NumberLiteral}
use Rattle.tql_spec.specs.Syntax.{TextLiteral, DateLiteral, TimestampLiteral, ColumnNamed, Enclosed, CountStar, Over}
use Rattle.tql_spec.specs.Syntax.{Marked, FromEnds, SystemTime, Operand, ByMark, ByName, Condition, AnyOf, MoreConjs}
use Rattle.tql_spec.specs.Syntax.{NoConj, OrConj, Conj, AllOf, MoreTests, NoTest, AndTest, Factor, Straight, Negated}
use Rattle.tql_spec.specs.Syntax.{Test, Grouped, Compared, NullTest, BetweenTest, InTest, RelationTest, ContainsPeriod}
use Rattle.tql_spec.specs.Syntax.{ContainsPoint}

-- ---- expressions

abbrev mutual
  pub sum_avoids : List Name → Sum → Bool
  sum_avoids names (Terms t more) = product_avoids names t && terms_avoid names more

  pub terms_avoid : List Name → MoreTerms → Bool
  terms_avoid names NoTerm = true
  terms_avoid names (PlusTerm t more) = product_avoids names t && terms_avoid names more
  terms_avoid names (MinusTerm t more) = product_avoids names t && terms_avoid names more

  pub product_avoids : List Name → Product → Bool
  product_avoids names (Factors s more) = signed_avoids names s && factors_avoid names more

  pub factors_avoid : List Name → MoreFactors → Bool
  factors_avoid names NoFactor = true
  factors_avoid names (TimesFactor s more) = signed_avoids names s && factors_avoid names more

  pub signed_avoids : List Name → Signed → Bool
  signed_avoids names (Unsigned p) = primary_avoids names p
  signed_avoids names (Positive p) = primary_avoids names p
  signed_avoids names (Negative p) = primary_avoids names p

  pub primary_avoids : List Name → Primary → Bool
  primary_avoids names (NumberLiteral ds) = true
  primary_avoids names (TextLiteral t) = true
  primary_avoids names (DateLiteral t) = true
  primary_avoids names (TimestampLiteral t) = true
  primary_avoids names (ColumnNamed r) = not (has_name r.name names)
  primary_avoids names (Enclosed e) = sum_avoids names e
  primary_avoids names CountStar = true
  primary_avoids names (Over f e) = sum_avoids names e

-- ---- periods as operands

-- PERIOD (..); a system period always counts as named
abbrev pub marked_avoids : List Name → Marked → Bool
marked_avoids names (FromEnds s e) = sum_avoids names s && sum_avoids names e
marked_avoids names (SystemTime q) = false

-- an operand
abbrev pub operand_avoids : List Name → Operand → Bool
operand_avoids names (ByMark m) = marked_avoids names m
operand_avoids names (ByName r) = not (has_name r.name names)

-- ---- conditions

abbrev mutual
  pub condition_avoids : List Name → Condition → Bool
  condition_avoids names (AnyOf c more) = conj_avoids names c && conjs_avoid names more

  pub conjs_avoid : List Name → MoreConjs → Bool
  conjs_avoid names NoConj = true
  conjs_avoid names (OrConj c more) = conj_avoids names c && conjs_avoid names more

  pub conj_avoids : List Name → Conj → Bool
  conj_avoids names (AllOf f more) = factor_avoids names f && tests_avoid names more

  pub tests_avoid : List Name → MoreTests → Bool
  tests_avoid names NoTest = true
  tests_avoid names (AndTest f more) = factor_avoids names f && tests_avoid names more

  pub factor_avoids : List Name → Factor → Bool
  factor_avoids names (Straight t) = test_avoids names t
  factor_avoids names (Negated t) = test_avoids names t

  pub test_avoids : List Name → Test → Bool
  test_avoids names (Grouped c) = condition_avoids names c
  test_avoids names (Compared op a b) = sum_avoids names a && sum_avoids names b
  test_avoids names (NullTest n a) = sum_avoids names a
  test_avoids names (BetweenTest n a b c) = sum_avoids names a && sum_avoids names b && sum_avoids names c
  test_avoids names (InTest n a b bs) = sum_avoids names a && sum_avoids names b && list_all (sum_avoids names) bs
  test_avoids names (RelationTest x r y) = operand_avoids names x && operand_avoids names y
  test_avoids names (ContainsPeriod x m) = operand_avoids names x && marked_avoids names m
  test_avoids names (ContainsPoint x e) = operand_avoids names x && sum_avoids names e

-- a WHERE condition, if there is one
abbrev pub filter_avoids : List Name → Option Condition → Bool
filter_avoids names None = true
filter_avoids names (Some c) = condition_avoids names c
