use Rattle.std.proofs.Common.{◌≡◌, sym, subst, ◌∙◌, ℕ, true, List}
use Rattle.tql_spec.specs.Constraint.{shown_rows}
use Rattle.tql_catalog.specs.Definitions.{reference_of}
use Rattle.tql_key_rows.specs.Asked.{new_rows, row_named}
use Rattle.tql_key_rows.specs.Keeping.{are_kept}
use Rattle.tql_key_rows.proofs.KeptLists.{among_bag}
use Rattle.tql_key_clashes.proofs.NamedRows.{among_in}
use Rattle.tql_keys.proofs.KeptReferences.{parent_kept_after}
use Rattle.tql_keys.proofs.references.parent_after.Goals as goal

pub returns-then-are_kept : goal.returns-then-are_kept
returns-then-are_kept g c rows children gone of judged there held =
    let h = c.args.store.now in
    let t = c.args.parent.now.id in
    let d = c.args.parent.now.definition in
    let cd = c.args.child.now.definition in
    let f = reference_of c.args.reference.now in
    let m = c.args.change.now.moment in
    let added = c.args.change.now.added.now in
    let given = c.args.change.now.given.now in
    let removed = c.args.change.now.removed.now in
    let kept : are_kept d f.parent_columns f.by_period (row_named h t) given (new_rows d m added) ≡ true =
    subst (λ (is : List ℕ). are_kept d is f.by_period (row_named h t) given (new_rows d m added) ≡ true)
    c.deref.ensures.value (sym c.if-are_kept.ensures) in
    parent_kept_after c.references_at_each_point.ensures h t cd d f m gone added rows (shown_rows cd children) given
    removed of.same judged
    (λ id i. among_in id given (among_bag id given removed c.args.change.now.same ∙ i)) kept held
