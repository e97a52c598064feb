use Rattle.std.proofs.Common.{◌≡◌, ◌∙◌, ap, map, subst, sym}
use Rattle.std.specs.Prelude.{Some}
use Rattle.tql_spec.specs.Definition.{TableDef}
use Rattle.tql_expr.specs.Meaning.{cond}
use Rattle.tql_plan_access.specs.Alternatives.{named, values_of}
use Rattle.tql_plan_access.specs.Choices.{choice_in}
use Rattle.tql_plan_access.proofs.Picked.{choice_serves, choice_there}
use Rattle.tql_plan_access.proofs.Serving.{values_serve}
use Rattle.tql_plan_access.proofs.choices.alternatives.Goals as goal

pub chosen-requires-clause-chooses : goal.chosen-requires-clause-chooses
chosen-requires-clause-chooses c =
    let t = c.args.terms.now in
    let conds = map (cond t) c.safe_conjuncts-decisive.result.now in
    (choice_there c.args.definition.now c.in_ok-singles.ensures.right conds (named t c.in-Some.choice)
    (sym (subst (λ (d : TableDef). Some (named t c.in-Some.choice) ≡ choice_in d conds) c.in_ok-singles.ensures.of
    c.in-Some.ensures.choice))).1

pub chosen-requires-clause-assignable : goal.chosen-requires-clause-assignable
chosen-requires-clause-assignable c =
    let t = c.args.terms.now in
    let conds = map (cond t) c.safe_conjuncts-decisive.result.now in
    (choice_there c.args.definition.now c.in_ok-singles.ensures.right conds (named t c.in-Some.choice)
    (sym (subst (λ (d : TableDef). Some (named t c.in-Some.choice) ≡ choice_in d conds) c.in_ok-singles.ensures.of
    c.in-Some.ensures.choice))).0

pub returns-in-Some-clause-serves : goal.returns-in-Some-clause-serves
returns-in-Some-clause-serves c =
    let t = c.args.terms.now in
    let conds = map (cond t) c.safe_conjuncts-decisive.result.now in
    let d = c.args.definition.now in
    choice_serves c.constants_are_met.ensures.values d c.in_ok-singles.ensures.right
    (map (cond t) c.args.conjuncts.now) (named t c.in-Some.choice)
    (ap (choice_in d) (sym c.safe_conjuncts-decisive.ensures.part)
    ∙ sym (subst (λ (e : TableDef). Some (named t c.in-Some.choice) ≡ choice_in e conds) c.in_ok-singles.ensures.of
    c.in-Some.ensures.choice))
    c.in_ok-found-in-Some.found c.in_ok-found-in-Some.ensures

pub returns-in-Some-clause-changes : goal.returns-in-Some-clause-changes
returns-in-Some-clause-changes c =
    values_serve c.args.definition.now (map (cond c.args.terms.now) c.args.conjuncts.now)
    c.in_ok-found-in-Some.found.column (values_of c.in_ok-found-in-Some.found) (returns-in-Some-clause-serves c)
