-- The test of a condition, at the number where its column is stored.
use Rattle.std.proofs.Common.{◌≡◌, ◌∙◌, sym, ap, subst, ℕ, ◌<◌, ◌==◌, true, false, ◌&&◌, List, [], length}
use Rattle.std.specs.Prelude.{Some, filter}
use Rattle.std.specs.List.{list_all, list_any}
use Rattle.tql_spec.specs.Datum.{Comparison, Datum, compare}
use Rattle.tql_spec.specs.Binding.{is_generated}
use Rattle.tql_spec.specs.Definition.{TableDef, cell, with_generated}
use Rattle.tql_spec.specs.Expression.{Cond, SafeConditionsAreJudged}
use Rattle.tql_spec.specs.Truth.{is_true}
use Rattle.tql_catalog.specs.Rows.{IsStoredAt}
use Rattle.tql_plan_access.specs.Access.{safe_part}
use Rattle.tql_plan_access.specs.Choices.{is_choice, is_chosen}
use Rattle.tql_plan_laws.specs.Equalities.{agree}
use Rattle.tql_plan_screen.specs.Coded.{Gains, IsTestFor}
use Rattle.tql_plan_screen.specs.Screens.{AreTestsOf, Compares, IsAmong, IsScreenOf, Screening, comparison_in, is_test}
use Rattle.tql_plan_screen.specs.Screens.{parts_of}
use Rattle.tql_plan_screen.proofs.ChoicesMet.{choice_sure}
use Rattle.tql_plan_screen.proofs.Comparisons.{comparison_compared, comparison_met}
use Rattle.tql_plan_screen.proofs.Gained.{no_tests}
use Rattle.tql_plan_screen.proofs.PartsMet.{whole_is}
use Rattle.tql_plan_screen.proofs.StoredColumns.{choice_test_is, compared_test_is}

-- a comparison
pub comparison_for : (d : TableDef) (c : Cond) (i k : ℕ) (s : Comparison) (v : Datum)
    → comparison_in c ≡ Some (Compares i s v) → i < length d.columns → is_generated d i ≡ false → IsStoredAt d i k
    → IsTestFor d c (Compares k s v)
comparison_for d c i k s v e l h at = record {
  is = compared_test_is d c i l h (comparison_compared c (Compares i s v) e);
  means = λ cells start end long.
      ap (λ x. is_true (compare s x v)) (sym (at cells start end long))
      ∙ comparison_met c (Compares i s v) e (with_generated d.system cells start end);
}

-- a choice
pub choice_for : SafeConditionsAreJudged → (d : TableDef) (c : Cond) (i k : ℕ) (vs : List Datum)
    → is_choice i c ≡ true → i < length d.columns → is_generated d i ≡ false → IsStoredAt d i k
    → ((x : Datum) → list_any (agree x) vs ≡ is_chosen i c x) → IsTestFor d c (IsAmong k vs)
choice_for law d c i k vs e l h at each = record {
  is = choice_test_is d c i l h e;
  means = λ cells start end long.
      each (cell cells k)
      ∙ ap (is_chosen i c) (sym (at cells start end long))
      ∙ sym (choice_sure law (with_generated d.system cells start end) i c e);
}

-- the screen that has gained the tests of the safe part is that of the conjuncts
pub screen_made : (d : TableDef) (conds decisive : List Cond) (old new : Screening) → decisive ≡ safe_part conds
    → old.tests ≡ [] → old.whole ≡ (length decisive == length conds) → Gains d (parts_of decisive) old new
    → IsScreenOf d conds new
screen_made d conds decisive old new e none w g = record {
  tests = subst (λ cs. AreTestsOf d (tested_of cs) new.tests) e
      (g.tests [] (subst (AreTestsOf d []) (sym none) (no_tests d)));
  whole =
      g.whole ∙ ap (λ k. k && list_all (is_test d) (parts_of decisive)) w
      ∙ ap (λ cs. (length cs == length conds) && list_all (is_test d) (parts_of cs)) e
      ∙ whole_is d conds;
}
  where
    tested_of : List Cond → List Cond
    tested_of cs = filter (is_test d) (parts_of cs)
