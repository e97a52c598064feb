use Rattle.tql_expr.specs.Meaning.{cond}
use Rattle.tql_plan_screen.specs.Coded.{compared_test}
use Rattle.tql_plan_screen.proofs.Gained.{gains_test, on_both}
use Rattle.tql_plan_screen.proofs.screening.add_part.Goals as goal

pub returns-in-Some : goal.returns-in-Some
returns-in-Some c =
    on_both c.add_comparison.result _ _ _
    (gains_test c.args.definition.now (cond c.args.terms.now c.args.c) (compared_test c.in-Some.compared)
    c.args.screen.now c.add_comparison.new.self c.in-Some.ensures.test)
    c.add_comparison.ensures.tests c.add_comparison.ensures.whole
