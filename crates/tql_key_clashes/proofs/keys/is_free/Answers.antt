use Rattle.std.proofs.Common.{◌≡◌, rules, tests, ◌∙◌, map}
use Rattle.std.proofs.lemmas.Iterator.{YieldsList-from_slice}
use Rattle.std.proofs.lemmas.Iterator.Search.{all_from_yields_List}
use Rattle.tql_spec.specs.Definition.{period_of}
use Rattle.tql_catalog.specs.Definitions.{key_of}
use Rattle.tql_expr.specs.Shown.{shown_by}
use Rattle.tql_store.specs.StoreModel.{is_among}
use Rattle.tql_versions.specs.declared.version.Version.{Version}
use Rattle.tql_value.specs.Views.{datum_of_view}
use Rattle.tql_key_rows.specs.Asked.{row_named}
use Rattle.tql_key_rows.specs.Touched.{tuple}
use Rattle.tql_key_rows.proofs.FoundIn.{found_in_as}
use Rattle.tql_key_clashes.proofs.Freely.{found_free}
use Rattle.tql_key_clashes.proofs.keys.is_free.Goals as goal

pub returns : goal.returns
returns g c rows gone of judged =
    let d = c.args.sought.now.table.now.definition in
    let k = key_of c.args.key.now in
    let a = shown_by c.args.row.now in
    let found = c.in_ok-found.found.items in
    let removed = c.args.change.now.removed.now in
    let values : map datum_of_view c.deref.result.now ≡ tuple k.columns a =
    cc (c.in_ok-tuple.ensures, c.requires.columns) in
    let bag = found_in_as d c.args.sought.now.columns.now k.columns (map datum_of_view c.deref.result.now)
    (tuple k.columns a) k.by_period (period_of d a) rows found c.requires.columns values
    (c.in_ok-found.ensures.rows (period_of d a) rows c.period-period.ensures of) in
    all_from_yields_List (λ (f : Version). is_among f.id removed)
    c.all.new.self _ c.all.result c.all.ensures.ran (YieldsList-from_slice found cc) (λ x b q k'. search (rules, tests))
    ∙ found_free d k a rows (row_named c.args.store.now c.args.sought.now.table.now.id) gone removed found bag
    c.in_ok-found.ensures.ids judged
