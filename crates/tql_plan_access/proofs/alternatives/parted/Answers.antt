use Rattle.std.proofs.Common.{◌∙◌, ap, sym}
use Rattle.tql_expr.specs.Meaning.{cond}
use Rattle.tql_expr.specs.Trees.{Term, cond_of}
use Rattle.tql_value.specs.Views.{datum_of_view}
use Rattle.tql_plan_access.specs.Choices.{is_chosen}
use Rattle.tql_plan_access.proofs.Picked.{second_chosen}
use Rattle.tql_plan_access.proofs.alternatives.parted.Goals as goal

pub returns-in-None-Some-clause-chosen : goal.returns-in-None-Some-clause-chosen
returns-in-None-Some-clause-chosen c x =
    let t = c.args.terms.now in
    let i = c.args.column in
    ap (λ (b : Term). is_chosen i (cond_of b) x) c.in-Or.ensures.term
    ∙ second_chosen i (cond t (record { place = c.in-Or.first })) (cond t (record { place = c.in-Or.second }))
    (datum_of_view c.in-None-Some.value) (sym c.in-None-Some.ensures') x
