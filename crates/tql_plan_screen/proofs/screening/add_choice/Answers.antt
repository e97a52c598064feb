use Rattle.std.proofs.Common.{subst, sym}
use Rattle.tql_catalog.specs.Rows.{IsStoredAt}
use Rattle.tql_expr.specs.Meaning.{cond}
use Rattle.tql_plan_access.specs.Alternatives.{values_of}
use Rattle.tql_plan_screen.specs.Coded.{among_test}
use Rattle.tql_plan_screen.proofs.Gained.{gains_test, on_both}
use Rattle.tql_plan_screen.proofs.Tests.{choice_for}
use Rattle.tql_plan_screen.proofs.screening.add_choice.Goals as goal

pub returns : goal.returns
returns c =
    let d = c.args.definition.now in
    let here = cond c.args.terms.now c.args.c in
    let i = c.args.column in
    let set = c.in_ok-set.set in
    on_both c.add_set.result _ _ _
    (gains_test d here (among_test set) c.args.screen.now c.add_set.new.self
    (choice_for c.safe_conditions.ensures d here i set.column (values_of set) c.requires.choice c.requires.within
    c.requires.stored (subst (IsStoredAt d i) (sym c.in_ok-set.ensures.column) c.stored_number-stored.ensures)
    c.in_ok-set.ensures.each))
    c.add_set.ensures.tests c.add_set.ensures.whole
