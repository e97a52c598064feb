use Rattle.std.proofs.Common.{◌≡◌, sym, subst, ℕ, true, List}
use Rattle.tql_catalog.specs.Definitions.{reference_of}
use Rattle.tql_key_rows.specs.Asked.{new_rows, row_named}
use Rattle.tql_key_rows.specs.Keeping.{are_kept}
use Rattle.tql_keys.proofs.KeptReferences.{child_kept_after}
use Rattle.tql_keys.proofs.references.child_after.Goals as goal

pub returns-then-are_kept : goal.returns-then-are_kept
returns-then-are_kept g c parents rows gone of from held =
    let h = c.args.store.now in
    let t = c.args.child.now.id in
    let d = c.args.child.now.definition in
    let f = reference_of c.args.reference.now in
    let m = c.args.change.now.moment in
    let added = c.args.change.now.added.now in
    let given = c.args.change.now.given.now in
    let kept : are_kept d f.columns f.by_period (row_named h t) given (new_rows d m added) ≡ true =
    subst (λ (is : List ℕ). are_kept d is f.by_period (row_named h t) given (new_rows d m added) ≡ true)
    c.deref.ensures.value (sym c.if-are_kept.ensures) in
    child_kept_after h t d c.args.parent.now.definition f parents m gone added rows given from.same kept held
