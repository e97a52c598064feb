-- In the order of report, the faults of expressions and conditions come after those of the state.
use Rattle.std.specs.Prelude.{◌≡◌, refl, ℤ, Bool, true, false, nat_lt, List, [], ◌∷◌, ◌++◌, Option, Some, None}
use Rattle.std.specs.List.{AllByRecursion}
use Rattle.tql_spec.specs.Datum.{Datum, Kind, Plus, Minus, Times}
use Rattle.tql_spec.specs.Refusal.{Refusal, place, fault_if, TableUnknownOrAlreadyThere, NameUnknownAmbiguousOrRepeated}
use Rattle.tql_spec.specs.Refusal.{TypesDoNotFit, FormNotAllowedHere, TableIsReferenced, TooManyTablesOrReaders}
use Rattle.tql_spec.specs.Refusal.{ValueOutOfRange, PortionNotRising}
use Rattle.tql_spec.specs.Calendar.{read_date, read_timestamp}
use Rattle.tql_spec.specs.Expression.{Function, Count, Sum, Min, Max, Cond}
use Rattle.tql_spec.specs.Syntax as tree
use Rattle.tql_spec.specs.Syntax.{Named, Product, MoreTerms, NoTerm, PlusTerm, MinusTerm, Terms, MoreFactors, NoFactor}
use Rattle.tql_spec.specs.Syntax.{TimesFactor, Factors, Signed, Unsigned, Positive, Negative, Primary, NumberLiteral}
use Rattle.tql_spec.specs.Syntax.{TextLiteral, DateLiteral, TimestampLiteral, ColumnNamed, Enclosed, CountStar, Over}
use Rattle.tql_spec.specs.Syntax.{Marked, FromEnds, SystemTime, Operand, ByMark, ByName, Condition, AnyOf, MoreConjs}
use Rattle.tql_spec.specs.Syntax.{NoConj, OrConj, Conj, AllOf, MoreTests, NoTest, AndTest, Factor, Straight, Negated}
use Rattle.tql_spec.specs.Syntax.{Test, Grouped, Compared, NullTest, BetweenTest, InTest, RelationTest, ContainsPeriod}
use Rattle.tql_spec.specs.Syntax.{ContainsPoint}
use Rattle.tql_spec.specs.Names.{Checked, check_each, Known, Thing, AColumn, APeriod, things, Typed, one_column}
use Rattle.tql_spec.specs.Names.{literal, arithmetic, aggregate, negative, expr, more_terms, product, more_factors}
use Rattle.tql_spec.specs.Names.{signed, primary, sole_name, Ends, one_period, system_periods, only_one, marked}
use Rattle.tql_spec.specs.Names.{operand, in_list, contained_point, contained_named, contained, condition, more_conjs}
use Rattle.tql_spec.specs.Names.{conj, more_tests, factor, test, factors_of, conjuncts, optional_conjuncts}

-- whether a fault comes after those of the transaction, the clock and open readers
abbrev pub is_late : Refusal → Bool
is_late e = nat_lt 8 (place e)

-- each of these faults comes late
pub record AreLate (faults : List Refusal) : Type 0 where
  pub each : AllByRecursion (λ e. is_late e ≡ true) faults

-- ---- lists of faults

pub none : AreLate []
none = record { each = tt }

all_both : (xs ys : List Refusal) → AllByRecursion (λ e. is_late e ≡ true) xs
    → AllByRecursion (λ e. is_late e ≡ true) ys → AllByRecursion (λ e. is_late e ≡ true) (xs ++ ys)
all_both [] ys h k = k
all_both (x ∷ xs) ys h k = (h.0, all_both xs ys h.1 k)

infixr 5 ◌⊗◌
pub ◌⊗◌ : {xs ys : List Refusal} → AreLate xs → AreLate ys → AreLate (xs ++ ys)
◌⊗◌ {xs} {ys} h k = record { each = all_both xs ys h.each k.each }

fault : (b : Bool) (e : Refusal) → is_late e ≡ true → AreLate (fault_if b e)
fault true e h = record { each = (h, tt) }
fault false e h = none

pub unknown : (b : Bool) → AreLate (fault_if b TableUnknownOrAlreadyThere)
unknown b = fault b TableUnknownOrAlreadyThere refl

pub ambiguous : (b : Bool) → AreLate (fault_if b NameUnknownAmbiguousOrRepeated)
ambiguous b = fault b NameUnknownAmbiguousOrRepeated refl

pub misfit : (b : Bool) → AreLate (fault_if b TypesDoNotFit)
misfit b = fault b TypesDoNotFit refl

pub misplaced : (b : Bool) → AreLate (fault_if b FormNotAllowedHere)
misplaced b = fault b FormNotAllowedHere refl

pub referenced : (b : Bool) → AreLate (fault_if b TableIsReferenced)
referenced b = fault b TableIsReferenced refl

pub crowded : (b : Bool) → AreLate (fault_if b TooManyTablesOrReaders)
crowded b = fault b TooManyTablesOrReaders refl

pub outside : (b : Bool) → AreLate (fault_if b ValueOutOfRange)
outside b = fault b ValueOutOfRange refl

pub falling : (b : Bool) → AreLate (fault_if b PortionNotRising)
falling b = fault b PortionNotRising refl

pub each_late : {A B : Type 0} (f : A → Checked B) (xs : List A) → ((x : A) → AreLate (f x).faults)
    → AreLate (check_each f xs).faults
each_late f [] h = none
each_late f (x ∷ xs) h = h x ⊗ each_late f xs h ⊗ none

-- ---- expressions

pub one_column_late : (ts : List Thing) → AreLate (one_column ts).faults
one_column_late [] = ambiguous true
one_column_late (AColumn i c ∷ []) = none
one_column_late (AColumn i c ∷ t ∷ ts) = ambiguous true
one_column_late (APeriod s e k ∷ ts) = ambiguous true

literal_late : (k : Kind) (f : ℤ → Datum) (o : Option ℤ) → AreLate (literal k f o).faults
literal_late k f None = outside true
literal_late k f (Some p) = none

aggregate_late : (f : Function) (a : Typed) → AreLate (aggregate f a).faults
aggregate_late Count a = none
aggregate_late Sum a = misfit _
aggregate_late Min a = none
aggregate_late Max a = none

negative_late : (p : Primary) (c : Checked Typed) → AreLate c.faults → AreLate (negative p c).faults
negative_late (NumberLiteral ds) c h = outside _
negative_late _ c h = h ⊗ misfit _

mutual
  pub expr_late : (scope : List Known) (e : tree.Sum) → AreLate (expr scope e).faults
  expr_late scope (Terms t more) = product_late scope t ⊗ more_terms_late scope more (product scope t).value

  more_terms_late : (scope : List Known) (more : MoreTerms) (a : Typed) → AreLate (more_terms scope more a).faults
  more_terms_late scope NoTerm a = none
  more_terms_late scope (PlusTerm t more) a =
      (product_late scope t ⊗ misfit _) ⊗ more_terms_late scope more (arithmetic Plus a (product scope t).value).value
  more_terms_late scope (MinusTerm t more) a =
      (product_late scope t ⊗ misfit _) ⊗ more_terms_late scope more (arithmetic Minus a (product scope t).value).value

  product_late : (scope : List Known) (t : Product) → AreLate (product scope t).faults
  product_late scope (Factors s more) = signed_late scope s ⊗ more_factors_late scope more (signed scope s).value

  more_factors_late : (scope : List Known) (more : MoreFactors) (a : Typed) → AreLate (more_factors scope more a).faults
  more_factors_late scope NoFactor a = none
  more_factors_late scope (TimesFactor s more) a =
      (signed_late scope s ⊗ misfit _) ⊗ more_factors_late scope more (arithmetic Times a (signed scope s).value).value

  signed_late : (scope : List Known) (s : Signed) → AreLate (signed scope s).faults
  signed_late scope (Unsigned p) = primary_late scope p
  signed_late scope (Positive p) = primary_late scope p ⊗ misfit _
  signed_late scope (Negative p) = negative_late p (primary scope p) (primary_late scope p)

  primary_late : (scope : List Known) (p : Primary) → AreLate (primary scope p).faults
  primary_late scope (NumberLiteral ds) = outside _
  primary_late scope (TextLiteral t) = none
  primary_late scope (DateLiteral t) = literal_late _ _ (read_date t)
  primary_late scope (TimestampLiteral t) = literal_late _ _ (read_timestamp t)
  primary_late scope (ColumnNamed r) = one_column_late (things scope r)
  primary_late scope (Enclosed e) = expr_late scope e
  primary_late scope CountStar = none
  primary_late scope (Over f e) = expr_late scope e ⊗ aggregate_late f (expr scope e).value

-- ---- periods

one_period_late : (ts : List Thing) → AreLate (one_period ts).faults
one_period_late [] = ambiguous true
one_period_late (AColumn i c ∷ ts) = ambiguous true
one_period_late (APeriod s e k ∷ []) = none
one_period_late (APeriod s e k ∷ t ∷ ts) = ambiguous true

only_one_late : (xs : List Ends) → AreLate (only_one xs).faults
only_one_late [] = ambiguous true
only_one_late (x ∷ []) = none
only_one_late (x ∷ y ∷ xs) = ambiguous true

marked_late : (scope : List Known) (m : Marked) → AreLate (marked scope m).faults
marked_late scope (FromEnds s e) = expr_late scope s ⊗ expr_late scope e ⊗ misfit _
marked_late scope (SystemTime q) = only_one_late (system_periods scope q)

operand_late : (scope : List Known) (x : Operand) → AreLate (operand scope x).faults
operand_late scope (ByMark m) = marked_late scope m
operand_late scope (ByName r) = one_period_late (things scope r)

-- ---- conditions

in_list_late : (scope : List Known) (a : Typed) (e : tree.Sum) (es : List tree.Sum)
    → AreLate (in_list scope a e es).faults
in_list_late scope a e [] = expr_late scope e ⊗ misfit _
in_list_late scope a e (e' ∷ es) = (expr_late scope e ⊗ misfit _) ⊗ in_list_late scope a e' es ⊗ none

point_late : (scope : List Known) (x : Ends) (e : tree.Sum) → AreLate (contained_point scope x e).faults
point_late scope x e = expr_late scope e ⊗ misfit _

named_late : (scope : List Known) (x : Ends) (e : tree.Sum) (ts : List Thing)
    → AreLate (contained_named scope x e ts).faults
named_late scope x e [] = point_late scope x e
named_late scope x e (AColumn i c ∷ ts) = point_late scope x e
named_late scope x e (APeriod s t k ∷ []) = misfit _
named_late scope x e (APeriod s t k ∷ u ∷ ts) = point_late scope x e

contained_late : (scope : List Known) (x : Ends) (e : tree.Sum) (o : Option Named)
    → AreLate (contained scope x e o).faults
contained_late scope x e None = point_late scope x e
contained_late scope x e (Some r) = named_late scope x e (things scope r)

mutual
  pub condition_late : (scope : List Known) (c : Condition) → AreLate (condition scope c).faults
  condition_late scope (AnyOf c more) = conj_late scope c ⊗ more_conjs_late scope more (conj scope c).value

  more_conjs_late : (scope : List Known) (more : MoreConjs) (c : Cond) → AreLate (more_conjs scope more c).faults
  more_conjs_late scope NoConj c = none
  more_conjs_late scope (OrConj d more) c = conj_late scope d ⊗ more_conjs_late scope more _

  conj_late : (scope : List Known) (c : Conj) → AreLate (conj scope c).faults
  conj_late scope (AllOf f more) = factor_late scope f ⊗ more_tests_late scope more (factor scope f).value

  more_tests_late : (scope : List Known) (more : MoreTests) (c : Cond) → AreLate (more_tests scope more c).faults
  more_tests_late scope NoTest c = none
  more_tests_late scope (AndTest f more) c = factor_late scope f ⊗ more_tests_late scope more _

  factor_late : (scope : List Known) (f : Factor) → AreLate (factor scope f).faults
  factor_late scope (Straight t) = test_late scope t
  factor_late scope (Negated t) = test_late scope t ⊗ none

  test_late : (scope : List Known) (t : Test) → AreLate (test scope t).faults
  test_late scope (Grouped c) = condition_late scope c
  test_late scope (Compared op a b) = expr_late scope a ⊗ expr_late scope b ⊗ misfit _
  test_late scope (NullTest n a) = expr_late scope a ⊗ none
  test_late scope (BetweenTest n a b c) =
      expr_late scope a ⊗ (expr_late scope b ⊗ misfit _) ⊗ (expr_late scope c ⊗ misfit _) ⊗ none
  test_late scope (InTest n a b bs) = expr_late scope a ⊗ in_list_late scope _ b bs ⊗ none
  test_late scope (RelationTest x r y) = operand_late scope x ⊗ operand_late scope y ⊗ misfit _
  test_late scope (ContainsPeriod x m) = operand_late scope x ⊗ marked_late scope m ⊗ misfit _
  test_late scope (ContainsPoint x e) = operand_late scope x ⊗ contained_late scope _ e (sole_name e)

-- ---- conjuncts

pub conjuncts_late : (scope : List Known) (c : Condition) → AreLate (conjuncts scope c).faults
conjuncts_late scope (AnyOf (AllOf f more) NoConj) = each_late (factor scope) (f ∷ factors_of more) (factor_late scope)
conjuncts_late scope (AnyOf (AllOf f more) (OrConj d rest)) =
    condition_late scope (AnyOf (AllOf f more) (OrConj d rest)) ⊗ none

pub optional_late : (scope : List Known) (c : Option Condition) → AreLate (optional_conjuncts scope c).faults
optional_late scope None = none
optional_late scope (Some c) = conjuncts_late scope c
