use Rattle.std.proofs.Common.{◌≡◌, true, rules, refl, arith, ap, subst, sym, ◌∙◌, length, filter}
use Rattle.std.specs.Prelude.{List, slice_index_or}
use Rattle.std.proofs.lemmas.Grind.{common_steps}
use Rattle.std.proofs.lemmas.Option.{IfSome_then}
use Rattle.tql_spec.specs.Definition.{Version}
use Rattle.tql_versions.specs.Readings.{asked}
use Rattle.tql_value.specs.declared.when.When.TheVariants.{Now}
use Rattle.tql_store_rows.specs.Readings.{IsCount}
use Rattle.tql_store_rows.specs.TableModel.{TableModel}
use Rattle.tql_store.specs.StoreModel.{StoreModel}
use Rattle.tql_store.specs.TableSlots.{slot_at, is_taken}
use Rattle.tql_store.specs.Orderly.{table_at}
use Rattle.tql_store.proofs.Counting.{counts_now, open_current, rows_counted}
use Rattle.tql_store.proofs.Numbers.{element-at, taken-within}
use Rattle.tql_store.proofs.Storing.{readable-at, shows, live-of}
use Rattle.tql_store.proofs.store.Store.count.Given as given
use Rattle.tql_store.proofs.store.Store.count.Goals as goal

-- the table that is counted
at : (g : given.Over) (c : goal.After-count g)
    → c.index.result.now ≡ table_at c.self.inside.rows.items c.args.table
at g c =
    let there : is_taken (slot_at c.self.inside.places.items c.args.table) ≡ true =
    ap (λ (h : StoreModel). is_taken (slot_at h.tables c.args.table)) c.self.view_is ∙ c.requires in
    let element : c.index.result.now ≡ slice_index_or c.self.inside.rows.items c.args.table c.index.result.now =
    first_of (search rules, grind (arith, common_steps)) in
    element-at c.self.inside.rows.items c.args.table c.args.table c.index.result.now element refl
    (taken-within c.self.inside.places.items c.self.inside.rows.items c.args.table c.self.invariant.even there)

pub returns : goal.returns
returns g c = IfSome_then c.count.result c.count.ensures (λ n is.
    let places = c.self.inside.places.items in
    let tables = c.self.inside.rows.items in
    let touched = c.self.inside.touched.items in
    let working = c.self.inside.working in
    let last = c.self.inside.last in
    let t = c.args.table in
    let counted : IsCount (table_at tables t) n = subst (λ (h : TableModel). IsCount h n) (at g c) is in
    counts_now c.args.self.now t n
    (rows_counted (table_at tables t) n (readable-at places tables touched working last c.self.invariant t).ended
    (open_current places tables touched working last c.self.invariant t n counted) counted.all
    ∙ ap (λ (vs : List Version). length (filter (asked Now) vs))
    (sym (live-of tables c.args.self.now t
    (shows places tables working last c.self.inside.horizon c.args.self.now c.self.view_is)))))
