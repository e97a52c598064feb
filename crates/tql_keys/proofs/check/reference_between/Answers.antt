use Rattle.std.proofs.Common.{◌≡◌, ◌<◌, ◌≢◌, arith, sym, ap, ◌∙◌, length, true}
use Rattle.std.specs.Prelude.{Some, slice_get}
use Rattle.std.proofs.lemmas.Result.{IfOk-weaker}
use Rattle.tql_spec.specs.History.{rows_in}
use Rattle.tql_catalog.specs.Definitions.{reference_of}
use Rattle.tql_catalog.specs.Tables.{definitions_of}
use Rattle.tql_store.specs.Changes.{rows_after}
use Rattle.tql_keys.specs.Checked.{copy_after}
use Rattle.tql_keys.proofs.WholeReferences.{rows_elsewhere, rows_there, told_of_copy, held_in_copy}
use Rattle.tql_keys.proofs.check.reference_between.Goals as goal

pub returns-then-child-place : goal.returns-then-child-place
returns-then-child-place g c =
    let D = definitions_of c.args.catalog.now in
    let from = c.table-from.result.now in
    let to = c.table-to.result.now in
    let t = c.args.place in
    let u = c.args.child in
    let p = c.args.parent in
    let m = c.args.change.now.moment in
    let f = reference_of c.args.reference.now in
    let added = c.args.change.now.added.now in
    let x = c.table-from.ensures.definition in
    let y = c.table-to.ensures.definition in
    let ut : u ≡ t = c.if-child-place.true in
    let pt : p ≢ t = λ q. c.requires.another (q ∙ sym ut) in
    IfOk-weaker c.child_after.result _ _ (λ b h copy gone is judged before.
    let l : t < length copy = omega (arith, is.as_many, c.requires.within) in
    let held = held_in_copy D copy u p f from.definition to.definition x y before in
    let told = h (rows_in copy p) (rows_in copy u) gone (is.rows p to c.table-to.ensures.table)
    (is.rows u from c.table-from.ensures.table) held in
    told_of_copy D (copy_after m t gone added copy) u p f from.definition to.definition
    (rows_after m gone added (rows_in copy u)) (rows_in copy p) b x y
    (ap (rows_in (copy_after m t gone added copy)) ut
    ∙ rows_there copy t (rows_after m gone added (rows_in copy t)) l
    ∙ ap (λ k. rows_after m gone added (rows_in copy k)) (sym ut))
    (rows_elsewhere copy t p (rows_after m gone added (rows_in copy t)) pt) told)
    c.child_after.ensures

pub returns-then-parent-place : goal.returns-then-parent-place
returns-then-parent-place g c =
    let D = definitions_of c.args.catalog.now in
    let from = c.table-from.result.now in
    let to = c.table-to.result.now in
    let t = c.args.place in
    let u = c.args.child in
    let p = c.args.parent in
    let m = c.args.change.now.moment in
    let f = reference_of c.args.reference.now in
    let added = c.args.change.now.added.now in
    let x = c.table-from.ensures.definition in
    let y = c.table-to.ensures.definition in
    let pt : p ≡ t = c.if-parent-place.true in
    let ut : u ≢ t = λ q. c.requires.another (pt ∙ sym q) in
    let there : slice_get c.args.catalog.now t ≡ Some to =
    ap (slice_get c.args.catalog.now) (sym pt) ∙ c.table-to.ensures.table in
    IfOk-weaker c.parent_after.result _ _ (λ b h copy gone is judged before.
    let l : t < length copy = omega (arith, is.as_many, c.requires.within) in
    let held = held_in_copy D copy u p f from.definition to.definition x y before in
    let told = h (rows_in copy p) (rows_in copy u) gone (is.rows p to c.table-to.ensures.table) (judged to there)
    (is.rows u from c.table-from.ensures.table) held in
    told_of_copy D (copy_after m t gone added copy) u p f from.definition to.definition (rows_in copy u)
    (rows_after m gone added (rows_in copy p)) b x y
    (rows_elsewhere copy t u (rows_after m gone added (rows_in copy t)) ut)
    (ap (rows_in (copy_after m t gone added copy)) pt
    ∙ rows_there copy t (rows_after m gone added (rows_in copy t)) l
    ∙ ap (λ k. rows_after m gone added (rows_in copy k)) (sym pt)) told)
    c.parent_after.ensures

pub returns : goal.returns
returns g c copy gone is judged before =
    let D = definitions_of c.args.catalog.now in
    let from = c.table-from.result.now in
    let to = c.table-to.result.now in
    let t = c.args.place in
    let u = c.args.child in
    let p = c.args.parent in
    let m = c.args.change.now.moment in
    let f = reference_of c.args.reference.now in
    let added = c.args.change.now.added.now in
    let x = c.table-from.ensures.definition in
    let y = c.table-to.ensures.definition in
    let held = held_in_copy D copy u p f from.definition to.definition x y before in
    told_of_copy D (copy_after m t gone added copy) u p f from.definition to.definition (rows_in copy u)
    (rows_in copy p) true x y
    (rows_elsewhere copy t u (rows_after m gone added (rows_in copy t)) c.if-child-place.false)
    (rows_elsewhere copy t p (rows_after m gone added (rows_in copy t)) c.if-parent-place.false) (sym held)
