use Rattle.std.proofs.Common.{◌≡◌, rules, tests, sym, ap, subst, ◌∙◌, false, List, [], ℕ, map}
use Rattle.std.specs.Prelude.{pos}
use Rattle.std.proofs.lemmas.Result.{IfOk-weaker}
use Rattle.tql_spec.specs.Bag.{SameBag}
use Rattle.tql_spec.specs.Constraint.{is_met, shown_rows}
use Rattle.tql_spec.specs.Datum.{Row}
use Rattle.tql_spec.proofs.Bags.{same-refl}
use Rattle.tql_expr.specs.Shown.{shown_by}
use Rattle.tql_catalog.specs.Definitions.{reference_of}
use Rattle.tql_store.specs.Changes.{rows_after}
use Rattle.tql_key_rows.specs.Asked.{new_rows, row_named}
use Rattle.tql_key_clashes.specs.Named.{IsJudged}
use Rattle.tql_keys.proofs.Children.{unchanged, none_judged}
use Rattle.tql_keys.proofs.references.is_met_now.Goals as goal

pub returns : goal.returns
returns g c =
    let d = c.args.parents.now.table.now.definition in
    let child = c.args.child.now in
    let f = reference_of c.args.reference.now in
    let r = shown_by c.args.row.now in
    let named = row_named c.args.store.now c.args.parents.now.table.now.id in
    let no_ids : c.deref.result.now ≡ [] = search (rules, tests) in
    let no_rows : c.deref-2.result.now ≡ [] = (c.deref-2.ensures.value
    ∙ c.new-come.ensures.items) in
    IfOk-weaker c.is_met.result _ _ (λ met h rows of.
    h rows (λ r'. false) of
    (subst (λ (ids : List ℕ). IsJudged named (λ r'. false) ids) (sym no_ids) (none_judged named))
    ∙ ap (λ (come : List Row). is_met child d f
    (shown_rows d (rows_after (pos 0) (λ r'. false) come rows)) r) no_rows
    ∙ ap (λ ps. is_met child d f (shown_rows d ps) r) (unchanged (pos 0) rows)) c.is_met.ensures

pub is_met-requires-clause-coming : goal.is_met-requires-clause-coming
is_met-requires-clause-coming g c =
    let d = c.args.parents.now.table.now.definition in
    let no_rows : c.deref-2.result.now ≡ [] = (c.deref-2.ensures.value
    ∙ c.new-come.ensures.items) in
    subst (λ (come : List Row). SameBag (map shown_by []) (new_rows d (pos 0) come)) (sym no_rows) (same-refl [])
