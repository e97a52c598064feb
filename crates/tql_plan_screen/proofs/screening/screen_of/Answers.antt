use Rattle.std.proofs.Common.{◌∙◌, ◌==◌, ap, map, sym}
use Rattle.std.proofs.lemmas.List.{length-map}
use Rattle.tql_expr.specs.Meaning.{cond}
use Rattle.tql_plan_screen.specs.Screens.{Screening}
use Rattle.tql_plan_screen.proofs.Served.{is_screen}
use Rattle.tql_plan_screen.proofs.Tests.{screen_made}
use Rattle.tql_plan_screen.proofs.screening.screen_of.Goals as goal

pub returns-clause-which : goal.returns-clause-which
returns-clause-which c =
    let t = c.args.terms.now in
    let all = c.args.conjuncts.now in
    let decisive = c.safe_conjuncts-decisive.result.now in
    let begun = c.begun-screen.result in
    screen_made c.args.definition.now (map (cond t) all) (map (cond t) decisive) begun c.add_conjuncts.new.screen
    c.safe_conjuncts-decisive.ensures.part
    (ap (λ (s : Screening). s.tests) c.begun-screen.ensures)
    (ap (λ (s : Screening). s.whole) c.begun-screen.ensures
    ∙ sym (λ i. length-map decisive (cond t) i == length-map all (cond t) i))
    c.in_ok-add_conjuncts.ensures

pub returns-clause-serves : goal.returns-clause-serves
returns-clause-serves c =
    is_screen c.args.definition.now c.is_definition.ensures (map (cond c.args.terms.now) c.args.conjuncts.now)
    c.add_conjuncts.new.screen (returns-clause-which c)
