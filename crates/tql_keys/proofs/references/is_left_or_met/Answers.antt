use Rattle.std.proofs.Common.{◌≡◌, rules, tests, sym, ap, ◌∙◌, false, map}
use Rattle.std.specs.Prelude.{◌||◌}
use Rattle.std.proofs.lemmas.Result.{IfOk-weaker}
use Rattle.tql_spec.specs.Constraint.{is_met, shown_rows}
use Rattle.tql_catalog.specs.Definitions.{reference_of}
use Rattle.tql_expr.specs.Shown.{shown_by}
use Rattle.tql_store.specs.Changes.{rows_after}
use Rattle.tql_keys.specs.Spared.{is_child_of_first}
use Rattle.tql_keys.proofs.references.is_left_or_met.Goals as goal

pub returns : goal.returns
returns g c = IfOk-weaker c.is_met.result _ _ (λ met h rows gone of judged.
    let d = c.args.parents.now.table.now.definition in
    let f = reference_of c.args.reference.now in
    let r = shown_by c.args.row.now in
    let m = c.args.change.now.moment in
    let added = c.args.change.now.added.now in
    let no : is_child_of_first c.args.child.now d f (map shown_by c.args.others.now) r ≡ false =
    search (rules, tests) in
    h rows gone of judged
    ∙ sym (ap (λ b. b || is_met c.args.child.now d f (shown_rows d (rows_after m gone added rows)) r) no))
    c.is_met.ensures
