use Rattle.std.proofs.Common.{◌≡◌, rules, tests, sym, ap, ◌∙◌, ℕ, false, List, map}
use Rattle.std.specs.Prelude.{◌||◌, ◌&&◌}
use Rattle.std.proofs.lemmas.Result.{IfOk-weaker}
use Rattle.tql_spec.specs.Constraint.{has_null, is_met_by, parents_of, shown_rows}
use Rattle.tql_spec.specs.Datum.{Datum}
use Rattle.tql_spec.specs.Definition.{period_of}
use Rattle.tql_expr.specs.Shown.{shown_by}
use Rattle.tql_catalog.specs.Definitions.{reference_of}
use Rattle.tql_store.specs.Changes.{rows_after}
use Rattle.tql_versions.specs.declared.version.Version.{Version}
use Rattle.tql_value.specs.Views.{datum_of_view}
use Rattle.tql_key_rows.specs.Asked.{new_rows, row_named}
use Rattle.tql_key_rows.specs.Coming.{any_with}
use Rattle.tql_key_rows.specs.Touched.{tuple, has_tuple}
use Rattle.tql_key_clashes.specs.Named.{staying}
use Rattle.tql_keys.specs.Parents.{any_left}
use Rattle.tql_key_rows.proofs.FoundIn.{found_in_as}
use Rattle.tql_key_rows.proofs.Wheres.{any_bag}
use Rattle.tql_keys.proofs.Children.{parents_decide, parents_near, parents_told}
use Rattle.tql_keys.proofs.references.is_met.Goals as goal

pub returns : goal.returns
returns g c = IfOk-weaker c.meets.result _ _ (λ met told rows gone of judged.
    let d = c.args.parents.now.table.now.definition in
    let child = c.args.child.now in
    let f = reference_of c.args.reference.now in
    let r = shown_by c.args.row.now in
    let m = c.args.change.now.moment in
    let added = c.args.change.now.added.now in
    let removed = c.args.change.now.removed.now in
    let parents = parents_of f (shown_rows d (rows_after m gone added rows)) r in
    let near = parents_near child d f r (shown_rows d (staying gone rows)) (new_rows d m added) in
    let named = row_named c.args.store.now c.args.parents.now.table.now.id in
    let found = c.in_ok-found.found.items in
    let values : map datum_of_view c.deref-3.result.now ≡ tuple f.columns r = cc (c.in_ok-tuple.ensures) in
    let bag = found_in_as d c.args.parents.now.columns.now f.parent_columns (map datum_of_view c.deref-3.result.now)
    (tuple f.columns r) f.by_period (period_of child r) rows found c.requires.columns values
    (c.in_ok-found.ensures.rows (period_of child r) rows c.period-within.ensures of) in
    let e4 : f.parent_columns ≡ c.args.parents.now.columns.now = sym c.requires.columns in
    let e5 : tuple f.columns r ≡ map datum_of_view c.deref-5.result.now = cc (c.in_ok-tuple.ensures) in
    let e6 : found ≡ c.deref-6.result.now = sym c.deref-6.ensures.value in
    let columns = c.args.parents.now.columns.now in
    let coming = map shown_by c.args.coming.now in
    let others = map shown_by c.with_tuple-others.result.now in
    let sought : map datum_of_view c.deref-5.result.now ≡ map datum_of_view c.deref-4.result.now = cc in
    let nulls : has_null f.columns r ≡ false = search (rules, tests) in
    told near (λ test.
    parents_told child d f r m added rows named gone removed found bag c.in_ok-found.ensures.ids judged test
    ∙ ap (λ (x : List Version). any_left d removed test x
    || any_with f.parent_columns (tuple f.columns r) test (new_rows d m added)) e6
    ∙ ap (λ (x : List ℕ). any_left d removed test c.deref-6.result.now
    || any_with x (tuple f.columns r) test (new_rows d m added)) e4
    ∙ ap (λ (x : List Datum). any_left d removed test c.deref-6.result.now
    || any_with columns x test (new_rows d m added)) e5
    ∙ ap (λ b. any_left d removed test c.deref-6.result.now || b)
    (sym (any_bag (λ s. has_tuple columns (map datum_of_view c.deref-5.result.now) s && test s) c.requires.coming)
    ∙ ap (λ (x : List Datum). any_with columns x test coming) sought
    ∙ sym (c.with_tuple-others.ensures test)
    ∙ sym (ap (λ (x : List Datum). any_with columns x test others) sought)))
    ∙ parents_decide c.references_at_each_point.ensures child d f r m gone added rows
    ∙ sym (ap (λ b. b || is_met_by child d f.by_period parents r) nulls)) c.meets.ensures
