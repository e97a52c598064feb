use Rattle.std.proofs.Common.{◌≡◌, sym, ap, ◌∙◌, List, ◌∷◌, drop, map}
use Rattle.std.proofs.lemmas.Result.{IfOk-weaker}
use Rattle.tql_spec.specs.Constraint.{shown_rows}
use Rattle.tql_catalog.specs.Definitions.{reference_of}
use Rattle.tql_expr.specs.Shown.{shown_by}
use Rattle.tql_expr.specs.declared.stored.StoredRow.{StoredRow}
use Rattle.tql_store.specs.Changes.{rows_after}
use Rattle.tql_keys.specs.Spared.{is_first_spared}
use Rattle.tql_keys.proofs.references.is_spared_at.Goals as goal

pub returns-in-Some : goal.returns-in-Some
returns-in-Some g c = IfOk-weaker c.is_spared.result _ _ (λ spared h rows others gone of judged there.
    let d = c.args.parents.now.table.now.definition in
    let cd = c.args.children.now.table.now.definition in
    let f = reference_of c.args.reference.now in
    let ps = shown_rows d (rows_after c.args.change.now.moment gone c.args.change.now.added.now rows) in
    let cs = shown_rows cd others in
    let left : drop c.args.place c.args.going.now ≡ c.in-Some.row.now ∷ c.in-Some.behind.now =
    sym c.split_at.ensures.back ∙ c.in-Some.ensures.cases.0 in
    h rows others gone of judged there
    ∙ sym (ap (λ (rs : List StoredRow). is_first_spared cd d f ps cs (map shown_by rs)) left)) c.is_spared.ensures
