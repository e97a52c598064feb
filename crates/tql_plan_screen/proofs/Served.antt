-- The screen of conjuncts serves them, and decides them if it is whole.
use Rattle.std.proofs.Common.{◌≡◌, ◌∙◌, refl, sym, ap, ℕ, true, false, List, [], length}
use Rattle.std.specs.Prelude.{IsTrue, Option, filter}
use Rattle.std.specs.List.{list_all}
use Rattle.tql_spec.specs.Definition.{System, TableDef, with_generated}
use Rattle.tql_spec.specs.Expression.{Cond, is_safe, judge}
use Rattle.tql_catalog.specs.Defined.{IsDefinition}
use Rattle.tql_plan_laws.specs.Conjuncts.{is_sure, meets}
use Rattle.tql_plan_access.specs.Access.{period_columns, safe_part}
use Rattle.tql_plan_access.proofs.ByKey.{stored_long}
use Rattle.tql_plan_screen.specs.Screens.{DecidesScreen, IsScreen, IsScreenOf, Screening, ServesScreen}
use Rattle.tql_plan_screen.specs.Screens.{is_test, no_screen, parts_of, tested}
use Rattle.tql_plan_screen.proofs.Booleans.{all_kept, filter_all, taken_all}
use Rattle.tql_plan_screen.proofs.PartsMet.{parts_met, tested_safe}

module _ (d : TableDef) (right : IsDefinition d) (conds : List Cond) (s : Screening) (h : IsScreenOf d conds s) where
  serves : ServesScreen d.system (period_columns d) (length d.columns) conds s.tests
  serves = record {
    all = λ cells start end r m.
        let row = with_generated d.system cells start end in
        h.tests.each cells start end (stored_long d right cells start end r.wide)
        ∙ all_kept (is_test d) (λ c. is_sure (judge [] row c)) (parts_of (safe_part conds))
        (parts_met (safe_part conds) row ∙ m);
  }

  decides : IsTrue s.whole → DecidesScreen d.system (period_columns d) (length d.columns) conds s.tests
  decides w =
      let all : list_all (is_test d) (parts_of conds) ≡ true = sym h.whole ∙ w in
      let safe : list_all is_safe conds ≡ true = tested_safe d conds all in
      let same : tested d conds ≡ parts_of conds =
      ap (λ cs. filter (is_test d) (parts_of cs)) (taken_all is_safe conds safe)
      ∙ filter_all (is_test d) (parts_of conds) all in
      record {
        safe = safe;
        all = λ cells start end r.
            let row = with_generated d.system cells start end in
            h.tests.each cells start end (stored_long d right cells start end r.wide)
            ∙ ap (λ cs. meets cs row) same ∙ parts_met conds row;
      }

  pub is_screen : IsScreen d.system (period_columns d) (length d.columns) conds s
  is_screen = record { serves = serves; decides = decides }

-- the screen without tests serves any conjuncts
pub none_serves : (system : Option System) (period : Option (ℕ × ℕ)) (width : ℕ) (conds : List Cond)
    → IsScreen system period width conds no_screen
none_serves system period width conds = record {
  serves = record { all = λ cells start end r m. refl };
  decides = λ w. absurd (let n : false ≡ true = w in cc);
}
