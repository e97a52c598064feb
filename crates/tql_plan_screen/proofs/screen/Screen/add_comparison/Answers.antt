use Rattle.std.proofs.Common.{ap, subst, sym, List}
use Rattle.tql_plan_screen.specs.Coded.{Admits, compared_test, tests_of}
use Rattle.tql_plan_screen.specs.Screens.{Screening, Test}
use Rattle.tql_plan_screen.specs.declared.compared.Compared.{Compared}
use Rattle.tql_plan_screen.proofs.Added.{with_comparison}
use Rattle.tql_plan_screen.proofs.screen.Screen.add_comparison.Goals as goal

pub returns-clause-tests : goal.returns-clause-tests
returns-clause-tests c =
    let inside = c.self.inside in
    let t = compared_test c.args.compared in
    subst (λ (ts : List Test). Admits t ts (tests_of c.push.new.self.items inside.sets.items))
    (ap (λ (s : Screening). s.tests) c.self.view_is)
    (subst (λ (cs : List Compared). Admits t (tests_of inside.comparisons.items inside.sets.items)
    (tests_of cs inside.sets.items)) (sym c.in_ok-push.ensures.items)
    (with_comparison inside.comparisons.items inside.sets.items c.args.compared))
