use Rattle.std.proofs.Common.{◌≡◌, ◌<◌, ◌≤◌, ◌+◌, rules, tests, sym, ap, ◌∙◌, Bool, true, false, length, drop, map}
use Rattle.std.specs.Prelude.{◌&&◌, ◌||◌}
use Rattle.std.specs.List.{list_all}
use Rattle.tql_spec.specs.Constraint.{is_met, shown_rows}
use Rattle.tql_spec.specs.Datum.{Row}
use Rattle.tql_spec.specs.Definition.{period_of, shown}
use Rattle.tql_expr.specs.Shown.{shown_by}
use Rattle.tql_catalog.specs.Definitions.{reference_of}
use Rattle.tql_store.specs.Changes.{rows_after}
use Rattle.tql_versions.specs.declared.version.Version.{Version}
use Rattle.tql_value.specs.Views.{datum_of_view}
use Rattle.tql_key_rows.specs.Asked.{row_found, row_named}
use Rattle.tql_key_rows.specs.Touched.{tuple}
use Rattle.tql_keys.specs.Spared.{is_child_of_first}
use Rattle.tql_key_rows.proofs.FoundIn.{found_in_as}
use Rattle.tql_key_rows.proofs.Stepping.{one_left, none_left}
use Rattle.tql_keys.proofs.Parented.{children_told}
use Rattle.tql_keys.proofs.references.is_spared.Goals as goal

pub returns-then-not-met : goal.returns-then-not-met
returns-then-not-met g c rows children gone of judged there =
    let d = c.args.parents.now.table.now.definition in
    let cd = c.args.children.now.table.now.definition in
    let f = reference_of c.args.reference.now in
    let t = shown_by c.args.row.now in
    let m = c.args.change.now.moment in
    let added = c.args.change.now.added.now in
    let found = c.in_ok-found.found.items in
    let others = c.as_slice-others.result.now in
    let i = c.loop-other.other-index in
    let F : Row → Bool = λ r. is_child_of_first cd d f (map shown_by c.args.behind.now) r
    || is_met cd d f (shown_rows d (rows_after m gone added rows)) r in
    let at : Version → Bool = λ x. F (shown cd (row_found x)) in
    let inside : i < length others = search rules in
    let row : shown_by c.current_row-row.result ≡ shown cd (row_found c.other-item.result) = search (rules, tests) in
    let met : c.in_ok-met.met ≡ at c.other-item.result =
    c.in_ok-met.ensures rows gone of judged ∙ ap F row in
    let values : map datum_of_view c.deref-2.result.now ≡ tuple f.parent_columns t = cc (c.in_ok-tuple.ensures) in
    let bag = found_in_as cd c.args.children.now.columns.now f.columns (map datum_of_view c.deref-2.result.now)
    (tuple f.parent_columns t) f.by_period (period_of d t) children found c.requires.child_columns values
    (c.in_ok-found.ensures.rows (period_of d t) children c.period-lost.ensures there) in
    let told = ap (list_all at) c.as_slice-others.ensures.value
    ∙ children_told cd d f t children (row_named c.args.store.now c.args.children.now.table.now.id) found bag
    c.in_ok-found.ensures.ids F in
    let fails : c.in_ok-met.met ≡ false = search (rules, tests) in
    sym (sym told ∙ sym (c.loop-other.invariant rows gone of judged)
    ∙ one_left at others i c.other-item.result inside c.other-item.is
    ∙ ap (λ b. b && list_all at (drop (i + 1) others)) (sym met ∙ fails))

pub loop-other-preserved : goal.loop-other-preserved
loop-other-preserved g c rows gone of judged =
    let d = c.args.parents.now.table.now.definition in
    let cd = c.args.children.now.table.now.definition in
    let f = reference_of c.args.reference.now in
    let m = c.args.change.now.moment in
    let added = c.args.change.now.added.now in
    let others = c.as_slice-others.result.now in
    let i = c.loop-other.other-index in
    let F : Row → Bool = λ r. is_child_of_first cd d f (map shown_by c.args.behind.now) r
    || is_met cd d f (shown_rows d (rows_after m gone added rows)) r in
    let at : Version → Bool = λ x. F (shown cd (row_found x)) in
    let inside : i < length others = search rules in
    let row : shown_by c.current_row-row.result ≡ shown cd (row_found c.other-item.result) = search (rules, tests) in
    let met : c.in_ok-met.met ≡ at c.other-item.result =
    c.in_ok-met.ensures rows gone of judged ∙ ap F row in
    let holds : c.in_ok-met.met ≡ true = search (rules, tests) in
    sym (one_left at others i c.other-item.result inside c.other-item.is
    ∙ ap (λ b. b && list_all at (drop (i + 1) others)) (sym met ∙ holds)) ∙ c.loop-other.invariant rows gone of judged

pub returns : goal.returns
returns g c rows children gone of judged there =
    let d = c.args.parents.now.table.now.definition in
    let cd = c.args.children.now.table.now.definition in
    let f = reference_of c.args.reference.now in
    let t = shown_by c.args.row.now in
    let m = c.args.change.now.moment in
    let added = c.args.change.now.added.now in
    let found = c.in_ok-found.found.items in
    let others = c.as_slice-others.result.now in
    let i = c.loop-other.other-index in
    let F : Row → Bool = λ r. is_child_of_first cd d f (map shown_by c.args.behind.now) r
    || is_met cd d f (shown_rows d (rows_after m gone added rows)) r in
    let at : Version → Bool = λ x. F (shown cd (row_found x)) in
    let values : map datum_of_view c.deref-2.result.now ≡ tuple f.parent_columns t = cc (c.in_ok-tuple.ensures) in
    let bag = found_in_as cd c.args.children.now.columns.now f.columns (map datum_of_view c.deref-2.result.now)
    (tuple f.parent_columns t) f.by_period (period_of d t) children found c.requires.child_columns values
    (c.in_ok-found.ensures.rows (period_of d t) children c.period-lost.ensures there) in
    let told = ap (list_all at) c.as_slice-others.ensures.value
    ∙ children_told cd d f t children (row_named c.args.store.now c.args.children.now.table.now.id) found bag
    c.in_ok-found.ensures.ids F in
    let past : length others ≤ i = search rules in
    sym (none_left at others i past) ∙ c.loop-other.invariant rows gone of judged ∙ told
