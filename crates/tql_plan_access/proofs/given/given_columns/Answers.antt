use Rattle.std.proofs.Common.{◌∙◌, ap, map, sym, length}
use Rattle.std.specs.List.{find}
use Rattle.tql_catalog.specs.Definitions.{column_of}
use Rattle.tql_catalog.specs.Sought.{sought_columns}
use Rattle.tql_expr.specs.Meaning.{cond}
use Rattle.std.proofs.lemmas.List.{length-map}
use Rattle.tql_plan_access.specs.Access.{are_marked, given_marks}
use Rattle.tql_plan_access.proofs.GivenLists.{marked_first}
use Rattle.tql_plan_access.proofs.given.given_columns.Goals as goal

pub returns-clause-columns : goal.returns-clause-columns
returns-clause-columns c =
    let conds = map (cond c.args.terms.now) c.args.conjuncts.now in
    let d = c.args.definition.now in
    c.marked_columns.ensures.columns
    ∙ ap (λ ms. find (are_marked ms) (sought_columns d)) (c.deref.ensures.value ∙ c.in_ok-marks.ensures)
    ∙ ap (λ n. find (are_marked (given_marks conds n)) (sought_columns d))
    (sym (length-map c.columns.result.now column_of) ∙ ap length c.columns.ensures.columns)
    ∙ marked_first conds d c.columns.ensures.right
