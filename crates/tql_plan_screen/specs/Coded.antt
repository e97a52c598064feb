-- The tests of the code, and what is added to them.
use Rattle.std.specs.Prelude.{◌≡◌, ℕ, ℤ, ◌+◌, ◌&&◌, ◌++◌, IsTrue, List, [], filter, length, map}
use Rattle.std.specs.Prelude.{Option, None, option_map}
use Rattle.std.specs.List.{list_all}
use Rattle.tql_spec.specs.Datum.{Row}
use Rattle.tql_spec.specs.Definition.{TableDef, with_generated}
use Rattle.tql_spec.specs.Expression.{Cond, Or, judge}
use Rattle.tql_catalog.specs.Rows.{stored_width}
use Rattle.tql_plan_laws.specs.Conjuncts.{is_sure}
use Rattle.tql_plan_laws.specs.Equalities.{or_else}
use Rattle.tql_plan_access.specs.Alternatives.{values_of}
use Rattle.tql_plan_access.specs.declared.alternatives.Alternatives.{Alternatives}
use Rattle.tql_value.specs.Views.{datum_of_view, plain_comparison}
use Rattle.tql_plan_screen.specs.Screens.{AreTestsOf, Compares, IsAmong, Screening, Test, comparison_in, is_admitted}
use Rattle.tql_plan_screen.specs.Screens.{is_met, is_test}
use Rattle.tql_plan_screen.specs.declared.compared.Compared.{Compared}

-- the test that a comparison is
abbrev pub compared_test : Compared → Test
compared_test c = Compares c.column (plain_comparison c.sign) (datum_of_view c.value)

-- the test for the values of a set
abbrev pub among_test : Alternatives → Test
among_test a = IsAmong a.column (values_of a)

-- the tests of comparisons and sets
abbrev pub tests_of : List Compared → List Alternatives → List Test
tests_of comparisons sets = map compared_test comparisons ++ map among_test sets

-- the column that a condition compares with a literal
abbrev pub column_of_test : Test → ℕ
column_of_test (Compares i sign v) = i
column_of_test (IsAmong i vs) = i

abbrev pub compared_column : Cond → Option ℕ
compared_column c = option_map column_of_test (comparison_in c)

-- the column of an equality of an OR: the only one of which the OR can be a choice
abbrev pub chosen_column : Cond → Option ℕ
chosen_column (Or c d) = or_else (compared_column c) (compared_column d)
chosen_column c = None

-- a condition is a test of a stored column, and stored cells meet this test exactly if their row meets the condition
pub record IsTestFor (d : TableDef) (c : Cond) (t : Test) : Type 0 where
  pub is : IsTrue (is_test d c)
  pub means : (cells : Row) (start end : ℤ) → length cells ≡ stored_width d
      → is_met t cells ≡ is_sure (judge [] (with_generated d.system cells start end) c)

-- tests gain one
pub record Admits (t : Test) (old new : List Test) : Type 0 where
  pub both : (cells : Row) → is_admitted new cells ≡ (is_admitted old cells && is_met t cells)
  pub count : length new ≡ length old + 1

-- a screen gains the tests of those of these conditions that are tests, and stays whole only if all are
pub record Gains (d : TableDef) (conds : List Cond) (old new : Screening) : Type 0 where
  pub tests : (before : List Cond) → AreTestsOf d before old.tests
      → AreTestsOf d (before ++ filter (is_test d) conds) new.tests
  pub whole : new.whole ≡ (old.whole && list_all (is_test d) conds)
