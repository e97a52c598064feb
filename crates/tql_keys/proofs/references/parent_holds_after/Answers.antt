use Rattle.std.proofs.Common.{◌≡◌, sym, ap, subst, ◌∙◌, Bool, List, map}
use Rattle.std.specs.List.{list_all}
use Rattle.std.proofs.lemmas.Result.{IfOk-weaker}
use Rattle.tql_spec.specs.Constraint.{shown_rows}
use Rattle.tql_spec.specs.Datum.{Row}
use Rattle.tql_catalog.specs.Definitions.{reference_of}
use Rattle.tql_catalog.specs.declared.catalog.Table.{Table}
use Rattle.tql_expr.specs.Shown.{shown_by}
use Rattle.tql_expr.specs.declared.stored.StoredRow.{StoredRow}
use Rattle.tql_store.specs.Changes.{rows_after}
use Rattle.tql_key_rows.specs.Asked.{AreRowsOf, current_rows, row_named}
use Rattle.tql_key_rows.specs.Coming.{TuplesRise}
use Rattle.tql_key_clashes.specs.Named.{IsJudged}
use Rattle.tql_keys.specs.Spared.{are_spared, is_spared}
use Rattle.tql_key_rows.proofs.Wheres.{all_bag}
use Rattle.tql_key_clashes.proofs.NamedRows.{store_names}
use Rattle.tql_keys.proofs.InTurn.{spared_in_turn}
use Rattle.tql_keys.proofs.Parented.{parent_after}
use Rattle.tql_keys.proofs.references.parent_holds_after.Goals as goal

pub returns : goal.returns
returns g c = IfOk-weaker c.are_spared.result _ _ (λ spared said rows children gone of judged there h.
    let d = c.args.parent.now.definition in
    let cd = c.args.child.now.definition in
    let f = reference_of c.args.reference.now in
    let m = c.args.change.now.moment in
    let added = c.args.change.now.added.now in
    let removed = c.args.change.now.removed.now in
    let base = current_rows c.args.store.now c.args.parent.now.id in
    let named = row_named c.args.store.now c.args.parent.now.id in
    let names = store_names c.args.store.now c.args.parent.now.id in
    let going = c.deref-3.result.now in
    let T : Table → Table → Type 0 = λ pt ct. AreRowsOf c.args.store.now pt rows
    → IsJudged (row_named c.args.store.now pt.id) gone removed → AreRowsOf c.args.store.now ct children
    → spared ≡ are_spared ct.definition pt.definition f
    (shown_rows pt.definition (rows_after m gone added rows)) (shown_rows ct.definition children)
    (map shown_by going) in
    let told : T c.in_ok-parents.parents.table.now c.in_ok-children.children.table.now = said rows children gone in
    let tested : spared ≡ are_spared cd d f (shown_rows d (rows_after m gone added rows)) (shown_rows cd children)
    (map shown_by going) = subst (λ pt. T pt c.args.child.now) c.in_ok-parents.ensures.table
    (subst (λ ct. T c.in_ok-parents.parents.table.now ct) c.in_ok-children.ensures.table told) of judged there in
    let F : Row → Bool = is_spared cd d f (shown_rows d (rows_after m gone added rows)) (shown_rows cd children) in
    parent_after c.references_at_each_point.ensures cd d f m gone added rows base (shown_rows cd children) named removed
    spared of.same names judged h
    (tested
    ∙ spared_in_turn cd d f (shown_rows d (rows_after m gone added rows)) (shown_rows cd children) (map shown_by going)
    ∙ ap (λ (rs : List StoredRow). list_all F (map shown_by rs)) c.deref-3.ensures.value
    ∙ all_bag F c.sort_going.ensures
    ∙ c.in_ok-going.ensures F)) c.are_spared.ensures

pub are_spared-requires-clause-rise : goal.are_spared-requires-clause-rise
are_spared-requires-clause-rise g c =
    subst (TuplesRise c.in_ok-parents.parents.columns.now) (sym c.deref-4.ensures.value) c.in_ok-coming.ensures.rise
